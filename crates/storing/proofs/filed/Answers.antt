-- `storing::filed` meets its contract: the stores are one run, and the head is written out. Assumes nothing.
use native.Mathlib.Omega.{arith}
use lib.ListN.{length-set}
use Rattle.storing.proofs.Sections.{filed_written}
use Rattle.storing.proofs.filed.Goals as goal

pub bounds-s : goal.bounds-s
bounds-s c = simp length-set (omega arith)

pub bounds-s-2 : goal.bounds-s-2
bounds-s-2 c = simp length-set (omega arith)

pub bounds-s-3 : goal.bounds-s-3
bounds-s-3 c = simp length-set (omega arith)

pub returns : goal.returns
returns c = λ a e. rw e (filed_written a _)
