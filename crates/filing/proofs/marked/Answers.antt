use native.Mathlib.Omega.{arith}
use Rattle.filing.proofs.Marking.{one_some, above_small, is_marked_lem, mark_small}
use Rattle.filing.proofs.marked.Goals as goal

pub nonzero_div-result : goal.nonzero_div-result
nonzero_div-result c = one_some c.args.b c.requires

pub overflow_mul-result : goal.overflow_mul-result
overflow_mul-result c = omega (arith, above_small c.args.filed c.args.b c.ranges.filed.fits c.requires)

pub overflow_add-result : goal.overflow_add-result
overflow_add-result c = omega (arith, above_small c.args.filed c.args.b c.ranges.filed.fits c.requires)

pub overflow_mul-result-2 : goal.overflow_mul-result-2
overflow_mul-result-2 c = omega (arith, mark_small c.args.filed c.args.b c.ranges.filed.fits c.requires)

pub nonzero_rem-result : goal.nonzero_rem-result
nonzero_rem-result c = one_some c.args.b c.requires

pub overflow_add-result-2 : goal.overflow_add-result-2
overflow_add-result-2 c = omega (arith, mark_small c.args.filed c.args.b c.ranges.filed.fits c.requires)

pub overflow_cast-result : goal.overflow_cast-result
overflow_cast-result c = omega (arith, mark_small c.args.filed c.args.b c.ranges.filed.fits c.requires)

pub returns : goal.returns
returns c = is_marked_lem c.args.filed c.args.b c.ranges.filed.fits c.requires
