-- `put_lines` meets its contract: the lines passed are put. Assumes nothing.
use mathlib.Core.Path.{◌≡◌}
use Prim.Native.Nat.{◌≤◌}
use lib.ListN.{length}
use Rattle.rules.specs.Card.{put_lines}
use Rattle.card.proofs.put_lines.Given as goal

abbrev pub invariant-loop-i : goal.invariant-loop-i
invariant-loop-i l = (l.i ≤ l.products) × (l.room ≡ put_lines l.initial.room l.lines l.i) × (length l.room ≡ length l.initial.room)
