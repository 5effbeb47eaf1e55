use Rattle.calls.proofs.Steps.{once}
use Rattle.commands.proofs.shell.respond_to.Goals as goal

pub returns : goal.returns
returns g c = search once
