use borrow.Author.Tests.{lt-ltb, le-ltb, eq-eqb, ne_eqb, le-leb, lt-leb}
use Rattle.rules.proofs.Range.of.Goals as goal

pub returns-then-excess-le20 : goal.returns-then-excess-le20
returns-then-excess-le20 c = search (lt-ltb, le-ltb, eq-eqb, ne_eqb, le-leb, lt-leb)

pub returns-then-excess-le30 : goal.returns-then-excess-le30
returns-then-excess-le30 c = search (lt-ltb, le-ltb, eq-eqb, ne_eqb, le-leb, lt-leb)

pub returns-then-excess-le40 : goal.returns-then-excess-le40
returns-then-excess-le40 c = search (lt-ltb, le-ltb, eq-eqb, ne_eqb, le-leb, lt-leb)

pub returns : goal.returns
returns c = search (lt-ltb, le-ltb, eq-eqb, ne_eqb, le-leb, lt-leb)
