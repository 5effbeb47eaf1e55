-- `take_line` meets its contract: the reader takes the field, the four lots and the field, one after the other. Assumes nothing.
use native.Mathlib.Omega.{arith}
use Rattle.rules.specs.Card.{line_bits}
use Rattle.card.proofs.ReadLaws.{takes, next_lot, lot_ahead, priority_ahead, line_taken}
use Rattle.card.proofs.take_line.Goals as goal

pub take_lot-one-requires : goal.take_lot-one-requires
take_lot-one-requires c =
    let h = c.args.reader.now in
    let t = takes h _ line_bits 8 _ c.requires (omega arith) (omega arith) c.take-tranches.ensures in
    lot_ahead h _ 0 c.requires (omega arith) t.goes

pub take_lot-two-requires : goal.take_lot-two-requires
take_lot-two-requires c =
    let h = c.args.reader.now in
    let t = takes h _ line_bits 8 _ c.requires (omega arith) (omega arith) c.take-tranches.ensures in
    let e = next_lot h _ _ 0 t.goes c.take_lot-one.ensures.1 in
    lot_ahead h _ 1 c.requires (omega arith) e

pub take_lot-three-requires : goal.take_lot-three-requires
take_lot-three-requires c =
    let h = c.args.reader.now in
    let t = takes h _ line_bits 8 _ c.requires (omega arith) (omega arith) c.take-tranches.ensures in
    let e = next_lot h _ _ 0 t.goes c.take_lot-one.ensures.1 in
    let e' = next_lot h _ _ 1 e c.take_lot-two.ensures.1 in
    lot_ahead h _ 2 c.requires (omega arith) e'

pub take_lot-four-requires : goal.take_lot-four-requires
take_lot-four-requires c =
    let h = c.args.reader.now in
    let t = takes h _ line_bits 8 _ c.requires (omega arith) (omega arith) c.take-tranches.ensures in
    let e = next_lot h _ _ 0 t.goes c.take_lot-one.ensures.1 in
    let e' = next_lot h _ _ 1 e c.take_lot-two.ensures.1 in
    let e'' = next_lot h _ _ 2 e' c.take_lot-three.ensures.1 in
    lot_ahead h _ 3 c.requires (omega arith) e''

pub line_of-requires : goal.line_of-requires
line_of-requires c =
    let h = c.args.reader.now in
    let t = takes h _ line_bits 8 _ c.requires (omega arith) (omega arith) c.take-tranches.ensures in
    let e = next_lot h _ _ 0 t.goes c.take_lot-one.ensures.1 in
    let e' = next_lot h _ _ 1 e c.take_lot-two.ensures.1 in
    let e'' = next_lot h _ _ 2 e' c.take_lot-three.ensures.1 in
    let e''' = next_lot h _ _ 3 e'' c.take_lot-four.ensures.1 in
    let t' = takes c.take_lot-four.new.reader _ 3 3 _ (priority_ahead h _ c.requires e''') (omega arith) (omega arith) c.take-priority.ensures in
    (t.small, t'.small)

pub returns : goal.returns
returns c =
    let h = c.args.reader.now in
    let t = takes h _ line_bits 8 _ c.requires (omega arith) (omega arith) c.take-tranches.ensures in
    let e = next_lot h _ _ 0 t.goes c.take_lot-one.ensures.1 in
    let e' = next_lot h _ _ 1 e c.take_lot-two.ensures.1 in
    let e'' = next_lot h _ _ 2 e' c.take_lot-three.ensures.1 in
    let e''' = next_lot h _ _ 3 e'' c.take_lot-four.ensures.1 in
    let t' = takes c.take_lot-four.new.reader _ 3 3 _ (priority_ahead h _ c.requires e''') (omega arith) (omega arith) c.take-priority.ensures in
    line_taken h _ _ _ _ _ _ _ _ _ _ _ _ _ t t.goes e e' e'' e''' t' c.take_lot-one.ensures.0 c.take_lot-two.ensures.0 c.take_lot-three.ensures.0 c.take_lot-four.ensures.0 c.line_of.ensures
