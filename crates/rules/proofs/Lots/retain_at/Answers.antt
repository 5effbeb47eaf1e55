use native.Mathlib.Omega.{arith}
use Rattle.rules.proofs.LotLaws.{at_total}
use Rattle.rules.proofs.Lots.retain_at.Goals as goal

pub overflow_add-one : goal.overflow_add-one
overflow_add-one c = rw c.at-l.ensures (omega (arith, at_total c.args.self c.args.i, c.requires))

pub returns : goal.returns
returns c = cc
