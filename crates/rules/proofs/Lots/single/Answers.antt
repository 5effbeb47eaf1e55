use mathlib.Core.Path.{◌≡◌}
use mathlib.Core.Bool.{true}
use native.Mathlib.Omega.{arith}
use borrow.Author.Tests.{lt-ltb}
use lib.Dec.{ltb}
use Rattle.rules.proofs.Lots.single.Goals as goal

pub returns-then-count-eq0 : goal.returns-then-count-eq0
returns-then-count-eq0 c = let z : c.args.count.0 ≡ 0 = omega arith in rw (c.none.ensures, z)

pub returns : goal.returns
returns c = let z : ltb 0 c.args.count.0 ≡ true = lt-ltb 0 c.args.count.0 (omega arith) in rw z cc
