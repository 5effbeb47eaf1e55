-- What a loop knows that asks whether each of the first m numbers passes a test, where the first i have passed. Assumes nothing.
use mathlib.Core.Path.{◌≡◌, sym, ◌∙◌, subst}
use mathlib.Core.Bool.{Bool, true, false}
use Prim.Native.Nat.{ℕ, ◌+◌, ◌≤◌, ◌<◌}
use native.Mathlib.Nat.{le_antisymm}
use Rattle.rules.specs.Count.{all_up_to}
use Rattle.rules.proofs.Lists.{all_more, not_all}

module _ (test : ℕ → Bool) (i : ℕ) (inv : all_up_to test i ≡ true) where
  pub fails : (m : ℕ) (t : Bool) → t ≡ test i → t ≡ false → i < m → all_up_to test m ≡ false
  fails m t e h l = not_all test m i l (sym e ∙ h)

  pub goes_on_lem : (t : Bool) → t ≡ test i → t ≡ true → all_up_to test (i + 1) ≡ true
  goes_on_lem t e h = all_more test i inv (sym e ∙ h)

  pub passes : (m : ℕ) → i ≤ m → m ≤ i → all_up_to test m ≡ true
  passes m l k = subst (λ n. all_up_to test n ≡ true) (le_antisymm l k) inv
