use Rattle.book.proofs.Loaded.{phase_at}
use Rattle.book.proofs.phase.Goals as goal

pub returns : goal.returns
returns c = phase_at _
