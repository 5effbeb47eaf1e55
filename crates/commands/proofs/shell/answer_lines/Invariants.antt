use Rattle.calls.specs.Lines.{Served}
use lib.ListN.{length}
use mathlib.Core.Path.{◌≡◌}
use Prim.Native.Nat.{◌≤◌, ◌-◌}
use Rattle.commands.proofs.shell.answer_lines.Given as goal

abbrev pub invariant-loop-start : goal.invariant-loop-start
invariant-loop-start g l = ((l.start ≤ l.full) × (length l.buf ≡ length l.initial.buf)) × Served l.initial.state l.state

abbrev pub decreases-loop-start : goal.decreases-loop-start
decreases-loop-start g l = l.full - l.start
