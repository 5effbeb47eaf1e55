-- Step 1, and that the accepted bids leave room for all that follows. Assumes nothing.
use mathlib.Core.Path.{◌≡◌, refl, sym, ◌∙◌, ap₂, subst}
use mathlib.Core.Bool.{Bool, true, false, cond}
use mathlib.Core.List.{List}
use Prim.Native.Nat.{ℕ, ◌-◌, ◌/◌, ◌%◌, ◌≤◌, ◌<◌}
use native.Mathlib.Omega.{arith}
use native.Mathlib.Nat.{div-add-mod'}
use borrow.Author.Tests.{eqb-true, ltb-true, ltb-false}
use lib.ListN.{get_or, length, get_or-eq_default}
use lib.Dec.{ltb, eqb}
use Rattle.std.specs.Prelude.{is_some}
use Rattle.rules.specs.declared.Line.{Line}
use Rattle.rules.specs.declared.Record.{Record}
use Rattle.rules.specs.declared.Place.{Place}
use Rattle.rules.specs.declared.Auction.{Auction}
use Rattle.rules.specs.Count.{all_up_to, first_up_to}
use Rattle.rules.specs.Lots.{count_of}
use Rattle.rules.specs.Card.{no_line}
use Rattle.rules.specs.Held.{entry, going_in, denied_in, retained_in, record_at, place, ticked}
use Rattle.rules.specs.Bid.{bid_in, withdrawn_in, reduction, increase, record_of, before_at, has_filed, default_line, bid_on}
use Rattle.rules.specs.Accept.{at, nowhere, place_at, accepted, accepted_all}
use Rattle.rules.specs.Round.{drawn, draw_fits}
use Rattle.rules.proofs.Sums.{and_left, and_right}
use Rattle.rules.proofs.Lists.{all_take, list_at, list_long}
use Rattle.table.specs.Drawn.{Drawn}
use Rattle.held.specs.Ticks.{is_one}
use Rattle.table.specs.Room.{Fits, Room}
use Rattle.rules.specs.Stands.{Stands}
use Rattle.rules.proofs.Tests.{told}
use Rattle.rules.proofs.LotLaws.{one_total}
use Rattle.rules.proofs.Fitting.{record_small, lines_fit}
use Rattle.held.specs.Ticks.{Ticks}

-- a place whose switches and increases are the bid's
pub accepted_with : (r : Record) (l : Line) (s i : ℕ) → s ≡ reduction r l - withdrawn_in l → i ≡ increase r l
    → at (entry (bid_in l) (denied_in r) r.retained) l.withdrawn s i l.priority ≡ accepted r l
accepted_with r l s i e f = ap₂ (λ s i. at (entry (bid_in l) (denied_in r) r.retained) l.withdrawn s i l.priority) e f

whole : (k : ℕ) → k ≡ place (k / 8) (k % 8)
whole k = sym (div-add-mod' k 8)

-- what stands at the place of a bidder on a product
accepted_at : (a : Auction) (ticks : List ℕ) → Ticks ticks a → (k : ℕ) → k % 8 < 8 → (l : Line) (x : Place)
    → l ≡ cond (has_filed a (k / 8)) (get_or a.cards.lines k no_line) (default_line (is_one ticks (k % 8)) (before_at a (k % 8)) (record_at a.records k))
    → x ≡ accepted (record_at a.records k) l → x ≡ accepted (record_of a (k / 8) (k % 8)) (bid_on a (k / 8) (k % 8))
accepted_at a ticks T k lt l x e f =
    subst (λ l. x ≡ accepted (record_at a.records k) l) e f
    ∙ ap₂ (λ j t. accepted (record_at a.records j)
    (cond (has_filed a (k / 8)) (get_or a.cards.lines j no_line) (default_line t (before_at a (k % 8)) (record_at a.records j)))) (whole k) (T (k % 8) lt)

-- the same of what was read there
pub accepted_here : (a : Auction) (ticks : List ℕ) → Ticks ticks a → (k : ℕ) → k % 8 < 8 → (l : Line) (x : Place)
    {f : Bool} {n : Line} {q : ℕ} {r : Record} → f ≡ has_filed a (k / 8) → n ≡ get_or a.cards.lines k no_line → q ≡ before_at a (k % 8)
    → r ≡ record_at a.records k → l ≡ cond f n (default_line (is_one ticks (k % 8)) q r) → x ≡ accepted r l
    → x ≡ accepted (record_of a (k / 8) (k % 8)) (bid_on a (k / 8) (k % 8))
accepted_here a ticks T k lt l x e₁ e₂ e₃ e₄ e f = accepted_at a ticks T k lt l x (rw (e₁, e₂, e₃, e₄) at e) (rw e₄ at f)

-- ---- room

Little : Line → Type 0
Little l = (bid_in l ≤ 255) × (withdrawn_in l ≤ 1020)

little_default : (tick : Bool) (q : ℕ) (r : Record) → going_in r ≤ 255 → Little (default_line tick q r)
unfolding Little
little_default true q r h = (omega arith, omega (arith, one_total (going_in r) q))
little_default false q r h = (h, omega arith)

little_cond : (filed : Bool) (l m : Line) → Little l → Little m → Little (cond filed l m)
little_cond true l m h k = h
little_cond false l m h k = k

fits_accepted : (r : Record) (l : Line) → going_in r ≤ 255 → denied_in r ≤ 255 → retained_in r ≤ 255 → Little l → Fits (accepted r l)
unfolding Little
fits_accepted r l g d n s = record { outs = omega arith; switches = omega arith; rises = omega arith }

module _ (a : Auction) (S : Stands a) where
  bid_small : (k : ℕ) → k < 256 → bid_in (get_or a.cards.lines k no_line) < 256
  bid_small k h = let e = lines_fit a S k h in search told

  withdrawn_small : (k : ℕ) → k < 256 → withdrawn_in (get_or a.cards.lines k no_line) ≤ 1020
  withdrawn_small k h =
      let e = lines_fit a S k h in
      let l = (get_or a.cards.lines k no_line).withdrawn in
      let n1 : count_of l.one < 256 = search told in
      let n2 : count_of l.two < 256 = search told in
      let n3 : count_of l.three < 256 = search told in
      let n4 : count_of l.four < 256 = search told in
      omega arith

  fits_place : (k : ℕ) → place (k / 8) (k % 8) < 256 → Fits (accepted (record_of a (k / 8) (k % 8)) (bid_on a (k / 8) (k % 8)))
  unfolding Little
  fits_place k l =
      let j = place (k / 8) (k % 8) in
      let r = (record_small a S j l).0 in
      let d = default_line (ticked a (k % 8)) (before_at a (k % 8)) (record_at a.records j) in
      fits_accepted (record_at a.records j) (bid_on a (k / 8) (k % 8)) (omega arith) (omega arith) (omega arith)
      (little_cond (has_filed a (k / 8)) (get_or a.cards.lines j no_line) d (omega (arith, bid_small j l), omega (arith, withdrawn_small j l))
      (little_default (ticked a (k % 8)) (before_at a (k % 8)) (record_at a.records j) (omega arith)))

  room_by : (k : ℕ) (t : Bool) → ltb k 256 ≡ t → Fits (place_at (accepted_all a) k)
  room_by k true e =
      let l = ltb-true k 256 e in
      subst Fits (sym (list_at (λ k. accepted (record_of a (k / 8) (k % 8)) (bid_on a (k / 8) (k % 8))) nowhere 256 k l))
      (fits_place k (subst (λ j. j < 256) (whole k) l))
  room_by k false e =
      let l = ltb-false k 256 e in
      let long = list_long (λ k. accepted (record_of a (k / 8) (k % 8)) (bid_on a (k / 8) (k % 8))) 256 in
      subst Fits (sym (get_or-eq_default (accepted_all a) nowhere (omega (arith, long))))
      (record { outs = omega arith; switches = omega arith; rises = omega arith })

  pub room_accepted : Room (accepted_all a)
  room_accepted = record {
    long = list_long (λ k. accepted (record_of a (k / 8) (k % 8)) (bid_on a (k / 8) (k % 8))) 256;
    each = λ k. room_by k (ltb k 256) refl;
  }

-- ---- the draw

pub drawn_all : (n : ℕ) (order : List ℕ) → n ≤ 32 → draw_fits n order ≡ true → Drawn n order
drawn_all n order l e =
    let t : Bool = all_up_to (λ b. is_some (first_up_to (λ i. eqb (drawn order i) b) n)) n in
    let r = and_right (eqb (length order) n) _ e in
    record {
      few = l;
      long = eqb-true _ _ (and_left (eqb (length order) n) _ e);
      range = λ i k. ltb-true _ _ (all_take (λ i. ltb (drawn order i) n) n (and_left (all_up_to (λ i. ltb (drawn order i) n) n) t r) i k);
    }
