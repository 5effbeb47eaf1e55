use Rattle.std.proofs.Common.{◌≤◌, mul-le-mul_left, arith}
use Rattle.paper.proofs.charts.part.Goals as goal

pub overflow_mul-result : goal.overflow_mul-result
overflow_mul-result c = let h : c.args.by ≤ 65535 = omega arith in let m = mul-le-mul_left c.args.a h in omega arith
