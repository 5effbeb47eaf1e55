use Rattle.commands.proofs.Kept.{kept}
use Rattle.commands.proofs.line.settle.Goals as goal

pub returns-then-done : goal.returns-then-done
returns-then-done g c = search kept

pub returns : goal.returns
returns g c = search kept
