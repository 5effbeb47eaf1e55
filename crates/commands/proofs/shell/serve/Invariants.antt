use Rattle.calls.specs.Lines.{Served}
use Rattle.commands.proofs.shell.serve.Given as goal

abbrev pub invariant-turns : goal.invariant-turns
invariant-turns g l = Served l.initial.state l.state
