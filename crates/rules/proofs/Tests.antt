-- Chains of tests as facts, and facts as chains of tests. Assumes nothing.
use mathlib.Core.Path.{◌≡◌, refl, sym, ◌∙◌}
use mathlib.Core.Bool.{Bool, true, false}
use Prim.Native.Nat.{ℕ, ◌≤◌, ◌<◌}
use lib.Dec.{leb, eqb}
use borrow.Author.Tests.{eqb-true, ltb-true, leb-true, eqb-false, ltb-false, leb-false, lt-ltb, le-leb, eq-eqb, lt-leb, ne_eqb}
use Rattle.rules.proofs.Sums.{and_left, and_right}
use Rattle.rules.proofs.Lists.{both}

-- a chain of tests taken apart
pub ruleset told = (and_left, and_right, leb-true, ltb-true, eqb-true)

-- and put together
pub ruleset shown = (both, le-leb, lt-ltb, eq-eqb)

-- a test by what its contrary would give
pub sure_true : (t : Bool) → (t ≡ false → ⊥) → t ≡ true
sure_true true h = refl
sure_true false h = absurd (h refl)

pub sure_false : (t : Bool) → (t ≡ true → ⊥) → t ≡ false
sure_false true h = absurd (h refl)
sure_false false h = refl

-- what one test says of its numbers, in whichever way the code writes it
pub ruleset said = (leb-true, ltb-true, eqb-true, leb-false, ltb-false, eqb-false)

-- a test that says of two numbers that they are equal, or that the first is not above the other
pub is_eqb : (t : Bool) (a b : ℕ) → (t ≡ true → a ≡ b) → (t ≡ false → a ≡ b → ⊥) → t ≡ eqb a b
is_eqb true a b h k = sym (eq-eqb a b (h refl))
is_eqb false a b h k = sym (ne_eqb a b (k refl))

pub is_leb : (t : Bool) (a b : ℕ) → (t ≡ true → a ≤ b) → (t ≡ false → b < a) → t ≡ leb a b
is_leb true a b h k = sym (le-leb a b (h refl))
is_leb false a b h k = sym (lt-leb a b (k refl))

-- what a call says of a test t, where the code goes on `!call`
pub no : {r t : Bool} → r ≡ t → r ≡ false → t ≡ false
no e f = sym e ∙ f

pub yes : {r t : Bool} → r ≡ t → r ≡ true → t ≡ true
yes e f = sym e ∙ f
