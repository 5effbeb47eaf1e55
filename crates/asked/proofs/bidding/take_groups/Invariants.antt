use mathlib.Core.Path.{◌≡◌}
use lib.ListN.{length}
use Prim.Native.Nat.{◌-◌, ◌≤◌}
use Rattle.asked.specs.Groups.{groups_from, groups_at}
use Rattle.asked.proofs.bidding.take_groups.Given as goal

abbrev pub invariant-loop-n : goal.invariant-loop-n
invariant-loop-n l = ((l.top ≤ 8) × (length l.lines ≡ 8)) × (groups_from l.line l.at l.n (l.top - l.n) l.lines ≡ groups_at l.line l.initial.at l.most)
