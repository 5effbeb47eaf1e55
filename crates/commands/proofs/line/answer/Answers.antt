use Rattle.commands.proofs.Kept.{named}
use Rattle.commands.proofs.line.answer.Goals as goal

pub returns : goal.returns
returns g c = search named
