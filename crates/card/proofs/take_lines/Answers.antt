-- `take_lines` meets its contract: a turn takes the next line and stores it. Assumes nothing.
use Rattle.std.proofs.Common.{◌≡◌, ◌+◌, ◌*◌, ◌∙◌, ap, sym, add-zero, arith}
use Rattle.rules.specs.Card.{line_bits, read_lines}
use Rattle.card.specs.Parts.{on}
use Rattle.card.proofs.ReadLaws.{then_on, line_stored}
use Rattle.card.proofs.take_lines.Goals as goal

pub loop-i-init : goal.loop-i-init
unfolding read_lines
loop-i-init c =
    let h = c.args.reader.now in
    record { within = omega arith; read = c.no_lines-lines.ensures; goes = λ i. record { card = h.card; at = sym (add-zero h.at) i } }

pub loop-i-preserved : goal.loop-i-preserved
loop-i-preserved c =
    let h = c.args.reader.now in
    let l = c.loop-i in
    let e = then_on h l.reader c.take_line.new.reader (line_bits * l.i) line_bits l.invariant.goes c.take_line.ensures.1 in
    record {
      within = omega arith;
      read = line_stored h l.reader l.i l.lines _ c.requires.1 l.invariant.goes l.invariant.read c.take_line.ensures.0;
      goes = e ∙ ap (on h) (let p : line_bits * l.i + line_bits ≡ line_bits * (l.i + 1) = omega arith in p);
    }
