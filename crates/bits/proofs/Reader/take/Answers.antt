-- `Reader::take` meets its contract: the place that `next_at` is asked for is a number of the machine's. Assumes nothing.
use Rattle.std.proofs.Common.{arith}
use Rattle.bits.proofs.FieldLaws.{next_fits}
use Rattle.bits.proofs.Reader.take.Goals as goal

pub next_at-self-requires : goal.next_at-self-requires
next_at-self-requires c =
    let h = c.args.self.now in
    rw c.bits_at-field.ensures (next_fits h.card.now h.at c.args.width (omega (arith, c.type_inv.self)))
