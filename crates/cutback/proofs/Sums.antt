-- A sum over more numbers is no smaller. Assumes nothing.
use mathlib.Core.Path.{◌≡◌, refl}
use mathlib.Core.Bool.{Bool, true, false}
use Prim.Native.Nat.{ℕ, zero, suc, ◌≤◌}
use native.Mathlib.Omega.{arith}
use borrow.Author.Tests.{leb-true, leb-false}
use lib.Dec.{leb}
use Rattle.rules.specs.Count.{sum_up_to}

pub sum_grows : (f : ℕ → ℕ) (m n : ℕ) → m ≤ n → sum_up_to f m ≤ sum_up_to f n
sum_grows f m zero l = let e : m ≡ 0 = omega arith in rw e (omega arith)
sum_grows f m (suc n) l = by (leb m n) refl (sum_grows f m n)
  where
    by : (t : Bool) → leb m n ≡ t → (m ≤ n → sum_up_to f m ≤ sum_up_to f n) → sum_up_to f m ≤ sum_up_to f (suc n)
    by true e r = let s = r (leb-true m n e) in omega arith
    by false e r = let q = leb-false m n e in let z : m ≡ suc n = omega arith in rw z (omega arith)
