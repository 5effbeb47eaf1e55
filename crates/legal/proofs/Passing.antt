-- The records product by product: each as it stands, and all of them. Assumes nothing.
use mathlib.Core.Path.{◌≡◌, refl, sym, ◌∙◌, ap, ap₂, subst}
use mathlib.Core.Bool.{Bool, true, false, ◌&&◌, cond}
use Prim.Native.Nat.{ℕ, ◌+◌, ◌*◌, ◌/◌, ◌%◌, ◌≤◌, ◌<◌}
use native.Mathlib.Numerals.{add-one}
use native.Mathlib.Omega.{arith}
use borrow.Author.Tests.{le-ltb, lt-ltb}
use lib.Dec.{ltb}
use Rattle.rules.specs.declared.Auction.{Auction}
use Rattle.rules.specs.declared.Record.{Record}
use Rattle.rules.specs.Count.{sum_up_to, all_up_to}
use Rattle.rules.specs.Settings.{setup, cap_of}
use Rattle.rules.specs.Held.{held_in, kept_in, record_at, held, place}
use Rattle.rules.specs.Bid.{record_of, price_at, before_at}
use Rattle.rules.specs.Legal.{record_zero, record_within, record_stands}
use Rattle.rules.proofs.Lists.{all_give, all_take}

abbrev pub stands_on : Auction → ℕ → ℕ → Bool
stands_on a p b = record_stands a (place b p)

module _ (a : Auction) (p b : ℕ) (h : p < 8) where
  -- a record of a bidder in use, and one past them
  pub stands_used : {x y z : ℕ} {u : Bool} {r : Record} → b < a.terms.bidders → u ≡ ltb p a.terms.products → x ≡ price_at a p
      → y ≡ before_at a p → z ≡ cap_of (setup a) p → r ≡ record_at a.records (place b p)
      → cond u (record_within x y z r) (record_zero r) ≡ stands_on a p b
  stands_used l eu ex ey ez er =
      let d : (b * 8 + p) / 8 ≡ b = omega arith in
      let m : (b * 8 + p) % 8 ≡ p = omega arith in
      rw (d, m, lt-ltb _ _ l, eu, ex, ey, ez, er)

  pub stands_past : {r : Record} → a.terms.bidders ≤ b → r ≡ record_at a.records (place b p) → record_zero r ≡ stands_on a p b
  stands_past l er =
      let d : (b * 8 + p) / 8 ≡ b = omega arith in
      rw (d, le-ltb _ _ l, er)

-- what the loop over the bidders knows after the first b of them
pub record Part (a : Auction) (p b x y : ℕ) (ok : Bool) : Type 0 where
  pub passed : ok ≡ all_up_to (stands_on a p) b
  pub held : x ≡ held a.records b p
  pub few : x ≤ 393210 * b
  pub kept : y ≡ sum_up_to (λ b. kept_in (record_of a b p)) b
  pub small : y ≤ 327675 * b

module _ {a : Auction} {p : ℕ} where
  pub none_yet : Part a p 0 0 0 true
  unfolding all_up_to
  none_yet = record { passed = refl; held = refl; few = omega arith; kept = refl; small = omega arith }

  pub one_yet : {b x y u v : ℕ} {ok t : Bool} {r : Record} → Part a p b x y ok → r ≡ record_at a.records (place b p)
      → (u ≡ held_in r) × (u ≤ 393210) → (v ≡ kept_in r) × (v ≤ 327675) → t ≡ stands_on a p b
      → Part a p (b + 1) (x + u) (y + v) (ok && t)
  unfolding all_up_to
  one_yet {b} {x} {y} {u} {v} h e f g k =
      let i = h.few in
      let j = h.small in
      let f' = f.1 in
      let g' = g.1 in
      record {
        passed = rw add-one (ap₂ ◌&&◌ h.passed k);
        held = rw add-one (ap₂ ◌+◌ h.held (f.0 ∙ ap held_in e));
        few = omega arith;
        kept = rw add-one (ap₂ ◌+◌ h.kept (g.0 ∙ ap kept_in e));
        small = omega arith;
      }

both_ways : (t u : Bool) → (t ≡ true → u ≡ true) → (u ≡ true → t ≡ true) → t ≡ u
both_ways true u h k = sym (h refl)
both_ways false true h k = k refl
both_ways false false h k = refl

-- a test of every place is a test of every bidder on every product
pub by_columns : (f : ℕ → Bool) → all_up_to (λ p. all_up_to (λ b. f (place b p)) 32) 8 ≡ all_up_to f 256
by_columns f = both_ways _ _ down across
  where
    down : all_up_to (λ p. all_up_to (λ b. f (place b p)) 32) 8 ≡ true → all_up_to f 256 ≡ true
    down e = all_give f 256 (λ k l.
        let z : k / 8 * 8 + k % 8 ≡ k = omega arith in
        subst (λ i. f i ≡ true) z
        (all_take (λ b. f (place b (k % 8))) 32 (all_take (λ p. all_up_to (λ b. f (place b p)) 32) 8 e (k % 8) (omega arith)) (k / 8) (omega arith)))

    across : all_up_to f 256 ≡ true → all_up_to (λ p. all_up_to (λ b. f (place b p)) 32) 8 ≡ true
    across e = all_give _ 8 (λ p l. all_give _ 32 (λ b m. all_take f 256 e (place b p) (omega arith)))
