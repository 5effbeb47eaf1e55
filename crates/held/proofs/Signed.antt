-- Laws of the signed standing: what is held less the target, at an i32. Assumes nothing.
use mathlib.Core.Path.{◌≡◌, refl, sym, ◌∙◌, ap, ap₂}
use mathlib.Core.Bool.{Bool, true, false, cond}
use Prim.Native.Nat.{ℕ, zero, suc, ◌-◌, ◌≤◌, zero-le}
use native.Mathlib.Omega.{arith}
use native.Mathlib.Nat.{add-zero, sub-zero}
use borrow.Author.Tests.{le-ltb}
use lib.Dec.{ltb}
use lib.IntN.{pos, negsuc, sub_ℕ, ◌-ℤ◌}
use lib.Signed.{mag}
use mir.Syntax.{w32}
use mir.Val.{SFits, to_z, of_z}
use mir.ValLaws.{to_z_pos, to_z-of_z}

diff : (a b : ℕ) → pos a -ℤ pos b ≡ sub_ℕ a b
diff a zero = rw (le-ltb a 0 zero-le) (ap pos (add-zero a ∙ sym (sub-zero a)))
diff a (suc b) = refl

by_mag : (t : Bool) (m n k : ℕ) → m ≤ k → n ≤ k → mag (cond t (negsuc m) (pos n)) ≤ k
by_mag true m n k h l = h
by_mag false m n k h l = l

-- two numbers of at most twenty million, far inside an i32
module _ (a b : ℕ) (h : a ≤ 20000000) (k : b ≤ 20000000) where
  pub less : to_z w32 a -ℤ to_z w32 b ≡ sub_ℕ a b
  less = ap₂ ◌-ℤ◌ (to_z_pos w32 a (omega arith)) (to_z_pos w32 b (omega arith)) ∙ diff a b

  pub less_fits : SFits w32 (sub_ℕ a b)
  less_fits =
      let m = by_mag (ltb a b) (b - suc a) (a - b) 20000000 (omega arith) (omega arith) in
      record { sfits = omega arith }

  -- the bits of the difference, read back
  pub less_back : to_z w32 (of_z w32 (sub_ℕ a b)) ≡ sub_ℕ a b
  less_back = to_z-of_z w32 (sub_ℕ a b) less_fits
