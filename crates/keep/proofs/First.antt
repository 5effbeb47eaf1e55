-- `find` over a range whose numbers below its start do not pass the test names the first number that passes. Assumes nothing.
use mathlib.Core.Bool.{Bool, true, false}
use mathlib.Core.List.{List}
use mathlib.Core.Path.{◌≡◌, refl, sym, subst}
use Prim.Native.Nat.{ℕ, zero, suc, ◌≤◌, ◌<◌}
use native.Mathlib.Omega.{arith}
use denote.Param.Members.{Mut}
use denote.Ref.{Bor}
use borrow.Author.Tests.{leb-true, leb-false}
use lib.Dec.{leb}
use Rattle.std.specs.Bool.{⊤}
use Rattle.std.specs.Fn.{CalledAt}
use Rattle.std.specs.Iterator.{YieldsThen}
use Rattle.std.specs.List.{FoldsTo}
use Rattle.std.specs.Option.{MatchOption}
use Rattle.std.specs.Prelude.{Option, None, Some}
use Rattle.std.specs.declared.ops.Range.{Range}
use Rattle.std.proofs.iter.Yields.{nat_range_steps}
use Rattle.std.proofs.lemmas.Iterator.{first_from_Range}
use Rattle.rules.specs.Count.{first_up_to}
use Rattle.rules.proofs.Sums.{first_stays, first_here, first_not}

module _ (test : ℕ → Bool) (a : ℕ) (none : first_up_to test a ≡ None) where
  -- none of the numbers from a to n passes
  none_below : (n : ℕ) → a ≤ n → ((k : ℕ) → a ≤ k → k < n → false ≡ test k) → first_up_to test n ≡ None
  none_below zero l h = let z : a ≡ 0 = omega arith in subst (λ k. first_up_to test k ≡ None) z none
  none_below (suc n) l h = by (leb a n) refl (λ k. none_below n k (λ i b c. h i b (omega arith)))
    where
      by : (t : Bool) → leb a n ≡ t → (a ≤ n → first_up_to test n ≡ None) → first_up_to test (suc n) ≡ None
      by true e r =
          let k = leb-true a n e in
          first_not test n (r k) (sym (h n k (omega arith)))
      by false e r =
          let k = leb-false a n e in
          let z : a ≡ suc n = omega arith in
          subst (λ k. first_up_to test k ≡ None) z none

  is_first : (n : ℕ) (r : Option ℕ) → a ≤ n
      → MatchOption r ((k : ℕ) → a ≤ k → k < n → false ≡ test k) (λ i. (a ≤ i) × (i < n) × (true ≡ test i) × ((k : ℕ) → a ≤ k → k < i → false ≡ test k))
      → r ≡ first_up_to test n
  is_first n None l h = sym (none_below n l h)
  is_first n (Some i) l h =
      sym (first_stays test (suc i) i n (first_here test i (none_below i h.0 h.3) (sym h.2)) h.1)

  module _ {F : Type 0} {g : Mut F (Bor ℕ × Unit {0}) Bool} {s : Range ℕ} (u : Range ℕ) {f : F} (r : Option ℕ) (n : ℕ) (l : a ≤ n)
      (is : s ≡ record { start = a; end = n }) (computes : (x : ℕ) (b : Bool) (q : F) → CalledAt g f x b q → (q ≡ f) × (b ≡ test x)) where
    pub first_below : (xs : List ℕ) × (j : F) × YieldsThen nat_range_steps s xs r u × FoldsTo (λ p x q. CalledAt g p x false q) f xs j × MatchOption r ⊤ (λ x. (h : F) × CalledAt g j x true h) → r ≡ first_up_to test n
    first_below ran =
        is_first n r l
        (subst (λ (s : Range ℕ). MatchOption r ((k : ℕ) → s.start ≤ k → k < s.end → false ≡ test k)
        (λ i. (s.start ≤ i) × (i < s.end) × (true ≡ test i) × ((k : ℕ) → s.start ≤ k → k < i → false ≡ test k))) is
        (first_from_Range s u f r (λ i. true ≡ test i) (λ i. false ≡ test i) ran (λ x q c. (computes x true q c).1)
        (λ x q c. computes x false q c)))
