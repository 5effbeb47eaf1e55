use Rattle.table.proofs.Rows.{set_at}
use Rattle.table.proofs.put.Goals as goal

pub returns : goal.returns
returns c = set_at _ _ _ _ c.row_of.ensures
