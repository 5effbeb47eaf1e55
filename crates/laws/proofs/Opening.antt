-- An opened auction stands. Assumes nothing.
use mathlib.Core.Path.{◌≡◌, refl, sym, ◌∙◌, ap}
use mathlib.Core.Bool.{Bool, true, false, cond}
use Prim.Native.Nat.{ℕ, zero, suc, ◌^◌, ◌<◌}
use native.Mathlib.Omega.{arith}
use native.Mathlib.Nat.{zero-div}
use borrow.Author.Tests.{eq-eqb}
use lib.ListN.{length, get_or, replicate, length-replicate}
use lib.Dec.{ltb}
use Rattle.rules.specs.declared.Setup.{Setup}
use Rattle.rules.specs.Count.{sum_up_to}
use Rattle.rules.specs.Units.{tranches}
use Rattle.rules.specs.Parts.{lane, no_lane, lane_at, seat, no_seat, seat_at}
use Rattle.rules.specs.Settings.{no_item, item_in, setup, within_limits, target_of, cap_of, start_of, initial_of}
use Rattle.rules.specs.Card.{no_line}
use Rattle.rules.specs.Held.{nothing, held_in, kept_in, record_at, held, place, free_of}
use Rattle.rules.specs.Bid.{record_of, price_at, before_at, mark_at, on_product, has_filed, slot_of}
use Rattle.rules.specs.Legal.{kept_on, slot_stands, phase_stands}
use Rattle.rules.specs.Calls.{opened}
use Rattle.rules.proofs.Sums.{sum_ext, sum_zero}
use Rattle.rules.proofs.Lists.{both, all_give, list_at, list_is, list_long}
use Rattle.rules.specs.Stands.{Long, Stands}
use Rattle.rules.proofs.LotLaws.{none_exit}
use Rattle.rules.proofs.Parts.{initial_is}
use Rattle.rules.proofs.Legal.{limits_take}

-- a list of one thing has it everywhere
pub blank : {A : Type 0} (x : A) (n k : ℕ) → get_or (replicate n x) k x ≡ x
blank x zero k = refl
blank x (suc n) zero = refl
blank x (suc n) (suc k) = blank x n k

-- the same either way
either : {A : Type 0} (t : Bool) (x : A) → cond t x x ≡ x
either true x = refl
either false x = refl

-- the settings are those opened
pub opened_setup : (t : Setup) → length t.item ≡ 8 → length t.eligibility ≡ 32 → setup (opened t) ≡ t
unfolding opened
opened_setup t i e =
    let x = list_is (λ p. item_in (lane_at (opened t) p)) no_item 8 t.item i (λ p h.
    sym (ap item_in (list_at (λ p. lane (target_of t p) (cap_of t p) (start_of t p) (start_of t p) (start_of t p) 0) no_lane 8 p h))) in
    let y = list_is (λ b. (seat_at (opened t) b).initial) (tranches 0) 32 t.eligibility e (λ b h.
    sym (ap (λ s. s.initial) (list_at (λ b. seat (initial_of t b) (initial_of t b)) no_seat 32 b h))) in
    rw (← x, ← y) refl

-- "f is the initial eligibility"
pub opened_free : (t : Setup) (b : ℕ) → b < 32 → free_of (opened t) b ≡ initial_of (setup (opened t)) b
unfolding opened
opened_free t b h =
    let e = list_at (λ b. seat (initial_of t b) (initial_of t b)) no_seat 32 b h in
    ap (λ s. s.free.0) e ∙ sym (initial_is (opened t) b h ∙ ap (λ s. s.initial.0) e)

-- no price has been worked out
pub opened_unmarked : (t : Setup) (p : ℕ) → p < 8 → mark_at (opened t) p ≡ 0
unfolding opened
opened_unmarked t p h = ap (λ l. l.mark) (list_at (λ p. lane (target_of t p) (cap_of t p) (start_of t p) (start_of t p) (start_of t p) 0) no_lane 8 p h)

module _ (t : Setup) (w : within_limits t ≡ true) (i : length t.item ≡ 8) (e : length t.eligibility ≡ 32) where
  no_record : (k : ℕ) → record_at (opened t).records k ≡ nothing
  unfolding opened
  no_record k = blank nothing 256 k

  none_held : (p : ℕ) → held (opened t).records t.terms.bidders p ≡ 0
  none_held p = sum_ext _ (λ b. 0) t.terms.bidders (λ b h. ap held_in (no_record (place b p))) ∙ sum_zero t.terms.bidders

  none_kept : (p : ℕ) → kept_on (opened t) p ≡ 0
  unfolding opened
  none_kept p = sum_ext _ (λ b. 0) t.terms.bidders (λ b h. ap kept_in (no_record (place b p))) ∙ sum_zero t.terms.bidders

  none_of : (b : ℕ) → sum_up_to (λ p. held_in (record_of (opened t) b p)) t.terms.products ≡ 0
  none_of b = sum_ext _ (λ p. 0) t.terms.products (λ p h. ap held_in (no_record (place b p))) ∙ sum_zero t.terms.products

  at_start : (p : ℕ) → p < 8 → price_at (opened t) p ≡ start_of t p
  unfolding opened
  at_start p h = ap (λ l. l.price) (list_at (λ p. lane (target_of t p) (cap_of t p) (start_of t p) (start_of t p) (start_of t p) 0) no_lane 8 p h)

  before_start : (p : ℕ) → p < 8 → before_at (opened t) p ≡ start_of t p
  unfolding opened
  before_start p h = ap (λ l. l.before) (list_at (λ p. lane (target_of t p) (cap_of t p) (start_of t p) (start_of t p) (start_of t p) 0) no_lane 8 p h)

  no_line_lem : (b p : ℕ) → p < 8 → on_product (slot_of (opened t) b) p ≡ no_line
  unfolding opened
  no_line_lem b p h = list_at _ no_line 8 p h ∙ blank no_line 256 (place b p)

  no_slot : (b : ℕ) → slot_stands (opened t) b ≡ true
  unfolding opened
  no_slot b =
      let e : has_filed (opened t) b ≡ false = rw (zero-div (2 ^ b)) refl in
      rw e (all_give _ 8 (λ p h. rw (no_line_lem b p h) (either (ltb p 0) true)))

  opening : phase_stands (opened t) ≡ true
  unfolding opened
  opening =
      let x : (p : ℕ) → start_of t p ≡ start_of (setup (opened t)) p = λ p. sym (ap (λ u. start_of u p) (opened_setup t i e)) in
      both (all_give _ 256 (λ k h. rw (no_record k) refl))
      (both (all_give _ 32 (λ b h. eq-eqb _ _ (opened_free t b h)))
      (all_give _ 8 (λ p h. both (eq-eqb _ _ (at_start p h ∙ x p)) (eq-eqb _ _ (before_start p h ∙ x p)))))

  -- "Before round 1, g = d = r = 0 and f is the initial eligibility": this stands
  pub opened_stands : Stands (opened t)
  unfolding opened
  opened_stands =
      let L = limits_take t w in
      let s = opened_setup t i e in
      record {
        within = rw s w;
        limits = rw s L;
        some_round = omega arith;
        round = omega arith;
        prices = λ p h. let x = L.start p h in omega (arith, ap (λ u. start_of u p) s, at_start p (omega arith), before_start p (omega arith));
        fell = λ p h o k. omega (arith, none_held p);
        kept = λ p h k. omega (arith, none_kept p);
        no_price = λ p h l. omega (arith, L.no_item p h l, at_start p l, before_start p l);
        marks = λ p h k. absurd (let z : ⊥ = omega (arith, opened_unmarked t p (omega (arith, L.products))) in z);
        no_mark = λ p h l. opened_unmarked t p l;
        exits = λ b p hb hp. rw (no_record (place b p)) (none_exit _ _);
        caps = λ b p hb hp. rw (no_record (place b p)) (omega arith);
        no_bidder = λ k l h. rw (no_record k) refl;
        no_product = λ k l h. rw (no_record k) refl;
        eligible = λ b h. rw (none_of b) (omega (arith, opened_free t b (omega arith)));
        no_free = λ b h l. omega (arith, L.no_bidder b h l, opened_free t b l, ap (λ u. initial_of u b) s);
        slots = λ b h. no_slot b;
        phase = opening;
      }

-- its lists are as long as its arrays
pub opened_long : (t : Setup) → length t.decrements.row ≡ 8 → Long (opened t)
unfolding opened
opened_long t r =
    record { lanes = list_long _ 8; seats = list_long _ 32; row = r; records = length-replicate 256 nothing; lines = length-replicate 256 no_line }
