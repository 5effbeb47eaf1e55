use lib.ListN.{length}
use mathlib.Core.Path.{◌≡◌}
use Prim.Native.Nat.{◌≤◌, ◌-◌}
use Rattle.store.proofs.files.read_whole.Given as goal

abbrev pub invariant-loop-end : goal.invariant-loop-end
invariant-loop-end g l = (l.end ≤ length l.buf) × (length l.buf ≡ length l.initial.buf)

abbrev pub decreases-loop-end : goal.decreases-loop-end
decreases-loop-end g l = length l.buf - l.end
