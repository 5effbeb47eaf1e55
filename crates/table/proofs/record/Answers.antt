use mathlib.Core.Path.{ap}
use Rattle.table.proofs.Rows.{read_at}
use Rattle.table.proofs.record.Goals as goal

pub returns : goal.returns
returns c =
    let a = c.args in
    rw c.lots-retained.ensures (ap (λ l. l.holds) (read_at a.ps.now a.k))
