-- What loops and joined tests return: whether any of the first m numbers passes a test, 1 where one passes, and tests that stand for a
-- choice. Assumes nothing.
use mathlib.Core.Path.{◌≡◌, refl, ap₂, ◌∙◌}
use mathlib.Core.Bool.{Bool, true, false, ◌||◌, not, cond}
use Prim.Native.Nat.{ℕ, ◌+◌}
use native.Mathlib.Numerals.{add-one}
use lib.Dec.{eqb}
use mir.Val.{bool_byte}
use Rattle.std.specs.Prelude.{Option, None, Some, is_some}
use Rattle.rules.specs.Count.{better, never, first_up_to}

module _ (has : ℕ → Bool) (i : ℕ) where
  by : (q : Option ℕ) (t : Bool) → has i ≡ t → is_some q || has i ≡ is_some (better has never q i)
  by None true e = rw e
  by None false e = rw e
  by (Some j) true e = rw e
  by (Some j) false e = rw e

  pub one_more : {t u : Bool} → t ≡ is_some (first_up_to has i) → u ≡ has i → t || u ≡ is_some (first_up_to has (i + 1))
  one_more e f = ap₂ ◌||◌ e f ∙ rw add-one (by (first_up_to has i) (has i) refl)

pub or_is : {r t q u : Bool} → r ≡ t → q ≡ u → r || q ≡ cond t true u
or_is {r} {t} {q} {u} e f = ap₂ ◌||◌ e f ∙ at t
  where
    at : (t : Bool) → t || u ≡ cond t true u
    at true = refl
    at false = refl

pub implied : {r t q u : Bool} → r ≡ t → q ≡ u → not r || q ≡ cond t u true
implied {r} {t} {q} {u} e f = ap₂ (λ x y. not x || y) e f ∙ at t
  where
    at : (t : Bool) → not t || u ≡ cond t u true
    at true = refl
    at false = refl

pub one_is : (t : Bool) → eqb (bool_byte t) 1 ≡ t
one_is true = refl
one_is false = refl
