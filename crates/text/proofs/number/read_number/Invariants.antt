use Rattle.std.proofs.Common.{◌≡◌}
use Rattle.text.specs.Number.{read_up_to}
use Rattle.text.proofs.number.read_number.Given as goal

abbrev pub invariant-loop-b : goal.invariant-loop-b
invariant-loop-b l = l.n ≡ read_up_to l.w l.b-index
