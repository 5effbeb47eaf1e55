use borrow.Author.Tests.{lt-ltb, le-ltb, eq-eqb, ne_eqb}
use Rattle.rules.proofs.Phase.of.Goals as goal

pub returns-then-number-eq0 : goal.returns-then-number-eq0
returns-then-number-eq0 c = search (lt-ltb, le-ltb, eq-eqb, ne_eqb)

pub returns-then-number-eq-OPEN : goal.returns-then-number-eq-OPEN
returns-then-number-eq-OPEN c = search (lt-ltb, le-ltb, eq-eqb, ne_eqb)

pub returns-then-number-eq-CLOSED : goal.returns-then-number-eq-CLOSED
returns-then-number-eq-CLOSED c = search (lt-ltb, le-ltb, eq-eqb, ne_eqb)

pub returns : goal.returns
returns c = search (lt-ltb, le-ltb, eq-eqb, ne_eqb)
