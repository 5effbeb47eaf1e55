use lib.Dec.{ltb}
use Rattle.card.proofs.LineLaws.{fields_are}
use Rattle.card.proofs.line_writable.Goals as goal

pub returns : goal.returns
returns c =
    let a = c.args in
    rw (
      c.holds-2.ensures,
      c.lots_writable.ensures,
      c.holds.ensures,
      c.field_limits-of_priority.ensures,
      c.field_limits-of_tranches.ensures,
    )
    (fields_are (ltb a.i a.products) a.line)
