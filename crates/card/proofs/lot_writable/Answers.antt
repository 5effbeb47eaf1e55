use lib.Dec.{ltb}
use Rattle.card.proofs.LotLaws.{lot_is}
use Rattle.card.proofs.lot_writable.Goals as goal

pub returns : goal.returns
returns c =
    let a = c.args in
    rw (c.holds-2.ensures, c.holds.ensures, c.field_limits-of_exit.ensures, c.field_limits-of_count.ensures)
    (lot_is (ltb a.i a.products) a.lot)
