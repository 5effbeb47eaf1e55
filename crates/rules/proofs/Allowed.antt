-- Limits as the tests of the definitions. Assumes nothing.
use mathlib.Core.Path.{◌≡◌, refl, sym, ◌∙◌, ap}
use mathlib.Core.Bool.{Bool, true, false, ◌&&◌}
use Prim.Native.Nat.{ℕ, ◌+◌, min}
use native.Mathlib.Nat.{le-min, min-le_left, min-le_right}
use native.Mathlib.Omega.{arith}
use borrow.Author.Tests.{leb-true, leb-false, le-leb, lt-leb, lt-ltb, le-ltb}
use lib.Dec.{leb, ltb, eqb}
use Rattle.rules.specs.declared.Limits.{Limits}
use Rattle.rules.specs.Settings.{between}
use Rattle.rules.specs.Allowed.{limits, allows}
use Rattle.rules.proofs.Tests.{said, is_eqb}

pub leb_min : (x a b : ℕ) → leb x (min a b) ≡ (leb x a && leb x b)
leb_min x a b = by (leb x a) (leb x b) refl refl
  where
    by : (t u : Bool) → leb x a ≡ t → leb x b ≡ u → leb x (min a b) ≡ (t && u)
    by true true e f = le-leb x (min a b) (le-min (leb-true x a e) (leb-true x b f))
    by true false e f = lt-leb x (min a b) (omega (arith, min-le_right a b, leb-false x b f))
    by false u e f = lt-leb x (min a b) (omega (arith, min-le_left a b, leb-false x a e))

-- at most a and at most b, with what else is asked
pub within_under : (l x a b : ℕ) (r : Bool) → (between l x (min a b) && r) ≡ (between l x a && (leb x b && r))
within_under l x a b r = rw (leb_min x a b) (regroup (leb l x) (leb x a) (leb x b))
  where
    regroup : (t u v : Bool) → ((t && (u && v)) && r) ≡ ((t && u) && (v && r))
    regroup true true v = refl
    regroup true false v = refl
    regroup false u v = refl

zero_leb : (x : ℕ) → leb 0 x ≡ true
zero_leb x = le-leb 0 x (omega arith)

-- 0 to a number is below the next
pub from_zero : (x a : ℕ) → between 0 x a ≡ ltb x (a + 1)
from_zero x a = rw (zero_leb x) (by (leb x a) refl)
  where
    by : (t : Bool) → leb x a ≡ t → t ≡ ltb x (a + 1)
    by true e = sym (lt-ltb x (a + 1) (omega (arith, leb-true x a e)))
    by false e = sym (le-ltb x (a + 1) (omega (arith, leb-false x a e)))

pub below_next : {r : Bool} {l : Limits} (x a : ℕ) → r ≡ allows l x → l ≡ limits 0 a → r ≡ ltb x (a + 1)
below_next x a e f = e ∙ (ap (λ l. allows l x) f ∙ from_zero x a)

-- 0 to 0 is 0
pub only_zero : (x : ℕ) → between 0 x 0 ≡ eqb x 0
only_zero x = rw (zero_leb x) (is_eqb (leb x 0) x 0 (λ h. omega (arith, said)) (λ h e. omega (arith, said)))

pub next_leb : (y x : ℕ) → leb (y + 1) x ≡ ltb y x
next_leb y x = by (leb (y + 1) x) refl
  where
    by : (t : Bool) → leb (y + 1) x ≡ t → t ≡ ltb y x
    by true e = sym (lt-ltb y x (omega (arith, leb-true (y + 1) x e)))
    by false e = sym (le-ltb y x (omega (arith, leb-false (y + 1) x e)))
