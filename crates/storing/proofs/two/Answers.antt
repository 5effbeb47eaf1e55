-- `storing::two` meets its contract: the stores are one run. Assumes nothing.
use native.Mathlib.Numerals.{towards_suc}
use native.Mathlib.Omega.{arith}
use lib.ListN.{length-set}
use Rattle.storing.proofs.two.Goals as goal

pub bounds-s-k-2 : goal.bounds-s-k-2
bounds-s-k-2 c = simp length-set (omega arith)

pub returns : goal.returns
returns c = simp towards_suc
