use Rattle.commands.proofs.Kept.{settled}
use Rattle.commands.proofs.line.command.Goals as goal

pub returns-in-Done : goal.returns-in-Done
returns-in-Done g c = search settled
