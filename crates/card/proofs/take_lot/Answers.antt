-- `take_lot` meets its contract: the reader takes the two fields, one after the other. Assumes nothing.
use native.Mathlib.Omega.{arith}
use Rattle.rules.specs.Card.{lot_bits}
use Rattle.card.proofs.ReadLaws.{ahead_on, takes, lot_taken}
use Rattle.card.proofs.take_lot.Goals as goal

pub lot_of-requires : goal.lot_of-requires
lot_of-requires c = (takes c.args.reader.now _ lot_bits 8 _ c.requires (omega arith) (omega arith) c.take-count.ensures).small

pub returns : goal.returns
returns c =
    let h = c.args.reader.now in
    let t = takes h _ lot_bits 8 _ c.requires (omega arith) (omega arith) c.take-count.ensures in
    let t' = takes c.take-count.new.self _ 17 17 _ (ahead_on h _ lot_bits 8 17 c.requires t.goes (omega arith)) (omega arith) (omega arith) c.take-exit.ensures in
    lot_taken h _ _ _ _ _ t t' c.lot_of.ensures
