use Rattle.text.specs.Words.{run_end}
use Rattle.std.proofs.Common.{◌≡◌, ◌-◌, length}
use Rattle.text.proofs.run_end.Given as goal

abbrev pub invariant-loop-i : goal.invariant-loop-i
invariant-loop-i l = run_end l.s l.run l.i (length l.s - l.i) ≡ run_end l.s l.run l.at (length l.s - l.at)
