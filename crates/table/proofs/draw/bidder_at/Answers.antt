use native.Mathlib.Omega.{arith}
use Rattle.table.proofs.draw.bidder_at.Goals as goal

pub bounds-order-i : goal.bounds-order-i
bounds-order-i c = omega (arith, c.requires.1.long)

pub overflow_cast-result : goal.overflow_cast-result
overflow_cast-result c = omega (arith, c.requires.1.range c.args.i c.requires.0, c.requires.1.few)

pub returns : goal.returns
returns c = omega (arith, c.requires.1.range c.args.i c.requires.0)
