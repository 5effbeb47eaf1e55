use Rattle.std.proofs.Common.{◌≡◌, ◌+◌, drop}
use Rattle.text.specs.Lines.{end_from}
use Rattle.text.proofs.lines.line_end.Given as goal

abbrev pub invariant-loop-i : goal.invariant-loop-i
invariant-loop-i l = l.i + end_from l.remark l.second l.first (drop l.i l.w) ≡ end_from l.remark 0 0 l.w
