use lib.Bits.{and_mask}
use Rattle.book.proofs.has_filed.Goals as goal

pub returns : goal.returns
returns c = rw (and_mask _ 1, c.filed.ensures)
