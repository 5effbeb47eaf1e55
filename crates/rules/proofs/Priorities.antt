-- Products numbered 1 to c once each have no other numbers. Assumes nothing.
use mathlib.Core.Path.{◌≡◌, refl, sym, ◌∙◌, ap}
use mathlib.Core.Bool.{Bool, true, false, ◌&&◌, cond}
use Prim.Native.Nat.{ℕ, zero, suc, ◌+◌, ◌-◌, ◌*◌, ◌≤◌, ◌<◌}
use native.Mathlib.Omega.{arith}
use native.Mathlib.Nat.{mul-suc}
use borrow.Author.Tests.{eqb-true, ltb-true, ltb-false, le-ltb, not-false}
use lib.Dec.{eqb, ltb}
use Rattle.rules.specs.declared.Line.{Line}
use Rattle.rules.specs.declared.Record.{Record}
use Rattle.rules.specs.Count.{sum_up_to, all_up_to}
use Rattle.rules.specs.Held.{going_in}
use Rattle.rules.specs.Bid.{bid_in, reduction, reductions, increases, increased, numbered, well_numbered, one_if}
use Rattle.rules.proofs.Sums.{sum_ext, sum_six, sum_zero, sum_ge, sum_pos, sum_swap, sum_tight, and_left, and_right}
use Rattle.rules.proofs.Lists.{all_take}
use Rattle.rules.proofs.Tests.{told}
use Rattle.rules.specs.Stands.{Accepted}

-- the same number n times
pub sum_const : (x n : ℕ) → sum_up_to (λ i. x) n ≡ x * n
sum_const x zero = omega arith
sum_const x (suc n) = ap (λ y. y + x) (sum_const x n) ∙ sym (mul-suc x n)

one_by : (t : Bool) (x c s : ℕ) → eqb x (c + 1) ≡ t → s ≤ 1 → (c < x → s ≡ 0) → (s + one_if t ≤ 1) × (suc c < x → s + one_if t ≡ 0)
one_by true x c s e h z = let q = eqb-true x (c + 1) e in (omega (arith, z (omega arith)), λ l. absurd (let y : ⊥ = omega arith in y))
one_by false x c s e h z = (omega arith, λ l. omega (arith, z (omega arith)))

-- a number is met at most once, and only once it is passed
met : (x c : ℕ) → (sum_up_to (λ k. one_if (eqb x (k + 1))) c ≤ 1) × (c < x → sum_up_to (λ k. one_if (eqb x (k + 1))) c ≡ 0)
met x zero = (omega arith, λ l. refl)
met x (suc c) = let r = met x c in one_by (eqb x (c + 1)) x c (sum_up_to (λ k. one_if (eqb x (k + 1))) c) refl r.0 r.1

-- an increased product has at most one number, another none
hits : (t : Bool) (x c : ℕ) → sum_up_to (λ k. one_if (t && eqb x (k + 1))) c ≤ one_if t
hits true x c = (met x c).0
hits false x c = omega (arith, sum_zero c)

at_most_one : (t : Bool) → one_if t ≤ 1
at_most_one true = omega arith
at_most_one false = omega arith

module _ (m : ℕ) (r : ℕ → Record) (l : ℕ → Line) where
  abbrev count : ℕ
  count = sum_up_to (λ p. one_if (increased m r l p)) m

  hit : ℕ → ℕ → ℕ
  hit k p = one_if (increased m r l p && eqb (l p).priority (k + 1))

  module _ (w : (k : ℕ) → k < count → eqb (numbered m r l (k + 1)) 1 ≡ true) where
    -- each number is some product's
    all_hit : sum_up_to (λ p. sum_up_to (λ k. hit k p) count) m ≡ count
    unfolding hit
    all_hit =
        sym (sum_swap hit count m)
        ∙ sum_ext _ (λ k. 1) count (λ k h. eqb-true _ _ (w k h))
        ∙ sum_const 1 count ∙ omega arith

    -- the number of an increased product is one of theirs
    in_count : (p : ℕ) → p < m → increased m r l p ≡ true → (l p).priority ≤ count
    unfolding hit
    in_count p h i = by (ltb count (l p).priority) refl
      where
        some : 1 ≤ sum_up_to (λ k. one_if (eqb (l p).priority (k + 1))) count
        some =
            rw i at (sum_tight (λ p. sum_up_to (λ k. hit k p) count) (λ p. one_if (increased m r l p)) m
            (λ p h. hits (increased m r l p) (l p).priority count) all_hit p h)

        by : (t : Bool) → ltb count (l p).priority ≡ t → (l p).priority ≤ count
        by true e = let z = (met (l p).priority count).1 (ltb-true _ _ e) in omega (arith, some)
        by false e = ltb-false _ _ e

  -- where something is reduced, not all products are increased
  not_all_rise : 0 < reductions m r l → count < m
  not_all_rise h =
      let s = sum_pos (λ p. reduction (r p) (l p)) m h in
      let g : 0 < reduction (r s.0) (l s.0) = s.2 in
      let z : one_if (increased m r l s.0) ≡ 0 = ap one_if (le-ltb 0 (bid_in (l s.0) - going_in (r s.0)) (omega arith)) in
      let a = sum_six (λ p. one_if (increased m r l p)) (λ p. 1 - one_if (increased m r l p)) (λ p. 0) (λ p. 1) (λ p. 0) (λ p. 0) m
      (λ p k. omega (arith, at_most_one (increased m r l p))) in
      omega (arith, sum_zero m, sum_const 1 m, sum_ge (λ p. 1 - one_if (increased m r l p)) m s.0 s.1)

module _ {m : ℕ} {tick : ℕ → Bool} {cap price before : ℕ → ℕ} {r : ℕ → Record} {l : ℕ → Line} {f : ℕ}
    (A : Accepted m tick cap price before r l f) (h : m ≤ 8) where
  increased_by : well_numbered m r l ≡ true → 0 < increases m r l - f → (p : ℕ) → p < m → (t : Bool) → increased m r l p ≡ t → (l p).priority < 8
  increased_by w s p k true e =
      let c = in_count m r l (all_take _ (count m r l) (and_right (all_up_to (λ p. cond (increased m r l p) true (eqb (l p).priority 0)) m) _ w)) p k e in
      omega (arith, not_all_rise m r l (omega (arith, A.total)))
  increased_by w s p k false e =
      let x = rw e at (all_take (λ p. cond (increased m r l p) true (eqb (l p).priority 0)) m (and_left _ _ w) p k) in
      let z : (l p).priority ≡ 0 = search told in
      omega arith

  switched_by : (t : Bool) → ltb 0 (increases m r l - f) ≡ t → (p : ℕ) → p < m → (l p).priority < 8
  switched_by true e p k =
      let w = not-false (well_numbered m r l) (rw e at A.numbered) in
      increased_by w (ltb-true _ _ e) p k (increased m r l p) refl
  switched_by false e p k =
      let w = not-false (all_up_to (λ p. eqb (l p).priority 0) m) (rw e at A.numbered) in
      let z : (l p).priority ≡ 0 = eqb-true _ _ (all_take _ m w p k) in
      omega arith

  -- the priorities of an accepted bid fit the card's three bits
  pub priority_small : (p : ℕ) → p < m → (l p).priority < 8
  priority_small = switched_by (ltb 0 (increases m r l - f)) refl
