-- The reader is before line i, and the array has the lines before it. Assumes nothing.
use Rattle.std.proofs.Common.{◌≡◌, ◌*◌, ◌≤◌}
use Rattle.rules.specs.Card.{line_bits, read_lines}
use Rattle.card.specs.Parts.{on}
use Rattle.card.proofs.take_lines.Given as goal

abbrev pub invariant-loop-i : goal.invariant-loop-i
invariant-loop-i l = record {
  within : l.i ≤ l.products;
  read : l.lines ≡ read_lines l.fn.reader.card.now l.i;
  goes : l.reader ≡ on l.fn.reader (line_bits * l.i);
}
