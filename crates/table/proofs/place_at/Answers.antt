use Rattle.table.proofs.Rows.{read_at}
use Rattle.table.proofs.place_at.Goals as goal

pub returns : goal.returns
returns c =
    let d = c in
    let a = d.args in
    rw (d.record-holds.ensures, d.lots-leaving.ensures, ← read_at a.ps.now a.k)
