use Prim.Native.Nat.{◌≤◌}
use native.Mathlib.Omega.{arith}
use native.Mathlib.Nat.{mul-le-mul_left}
use Rattle.rules.proofs.after_cut.Goals as goal

pub overflow_mul-cut : goal.overflow_mul-cut
overflow_mul-cut c = let h : c.args.by.0 ≤ 65535 = omega arith in let m = mul-le-mul_left c.args.amount h in omega arith

pub overflow_add-cut : goal.overflow_add-cut
overflow_add-cut c = let h : c.args.by.0 ≤ 65535 = omega arith in let m = mul-le-mul_left c.args.amount h in omega arith
