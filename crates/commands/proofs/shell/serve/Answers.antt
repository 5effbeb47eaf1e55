use Rattle.calls.proofs.Steps.{onward}
use Rattle.commands.proofs.shell.serve.Goals as goal

pub returns-then-at : goal.returns-then-at
returns-then-at g c = search onward

pub turns-preserved : goal.turns-preserved
turns-preserved g c = search onward
