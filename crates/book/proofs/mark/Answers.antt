use Rattle.book.proofs.Loaded.{mark_at_lem}
use Rattle.book.proofs.mark.Goals as goal

pub returns : goal.returns
returns c = mark_at_lem _ _ c.requires.1
