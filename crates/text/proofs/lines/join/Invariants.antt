use Rattle.std.proofs.Common.{◌≡◌, ◌++◌, take, drop}
use Rattle.text.specs.Lines.{join_from}
use Rattle.text.proofs.lines.join.Given as goal

abbrev pub invariant-loop-i : goal.invariant-loop-i
invariant-loop-i l = take l.i l.w ++ join_from l.second l.first (drop l.i l.w) ≡ join_from 0 0 l.initial.w
