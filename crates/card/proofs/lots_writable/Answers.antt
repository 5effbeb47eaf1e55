use lib.Dec.{ltb}
use Rattle.card.proofs.LotLaws.{lots_are}
use Rattle.card.proofs.lots_writable.Goals as goal

pub returns : goal.returns
returns c =
    let a = c.args in
    rw (c.lot_writable-four.ensures, c.lot_writable-three.ensures, c.lot_writable-two.ensures, c.lot_writable-one.ensures)
    (lots_are (ltb a.i a.products) a.lots)
