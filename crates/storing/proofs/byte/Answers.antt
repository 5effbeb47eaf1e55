-- `storing::byte` meets its contract: a u8 is below 256. Assumes nothing.
use mathlib.Core.Path.{◌≡◌}
use Prim.Native.Nat.{◌%◌}
use native.Mathlib.Omega.{arith}
use Rattle.storing.proofs.byte.Goals as goal

pub returns : goal.returns
returns c = let e : c.args.x % 256 ≡ c.args.x = omega arith in rw e
