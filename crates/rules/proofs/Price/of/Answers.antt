use borrow.Author.Tests.{lt-ltb, le-ltb, eq-eqb, ne_eqb, le-leb, lt-leb}
use Rattle.rules.proofs.Price.of.Goals as goal

pub returns-then-unit-eq0 : goal.returns-then-unit-eq0
returns-then-unit-eq0 c = search (lt-ltb, le-ltb, eq-eqb, ne_eqb, le-leb, lt-leb)

pub returns : goal.returns
returns c = search (lt-ltb, le-ltb, eq-eqb, ne_eqb, le-leb, lt-leb)
