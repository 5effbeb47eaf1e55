use Rattle.book.proofs.Loaded.{unit_at}
use Rattle.book.proofs.unit.Goals as goal

pub returns : goal.returns
returns c = unit_at _
