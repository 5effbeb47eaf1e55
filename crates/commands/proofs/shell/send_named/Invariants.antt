use Prim.Native.Nat.{◌≤◌, ◌-◌}
use Rattle.commands.proofs.shell.send_named.Given as goal

abbrev pub invariant-loop-from : goal.invariant-loop-from
invariant-loop-from g l = (l.from ≤ l.n) × (l.n ≤ 65536)

abbrev pub decreases-loop-from : goal.decreases-loop-from
decreases-loop-from g l = l.n - l.from
