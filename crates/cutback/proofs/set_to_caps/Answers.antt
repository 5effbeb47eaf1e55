use native.Mathlib.Omega.{arith}
use Rattle.rules.proofs.Fill.{none_filled, one_more, all_filled}
use Rattle.table.proofs.Rows.{rows_long}
use Rattle.cutback.proofs.set_to_caps.Goals as goal

pub loop-k-init : goal.loop-k-init
loop-k-init c = none_filled _ (rows_long _ 256 c.requires.1)

pub loop-k-preserved : goal.loop-k-preserved
loop-k-preserved c = rw c.put.ensures (one_more _ c.loop-k.invariant (omega arith) cc)

pub returns : goal.returns
returns c = all_filled c.loop-k.invariant (omega arith)
