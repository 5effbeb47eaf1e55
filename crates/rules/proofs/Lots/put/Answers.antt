use borrow.Author.Tests.{eq-eqb, ne_eqb}
use Rattle.rules.proofs.Lots.put.Goals as goal

pub returns-then-i-eq0 : goal.returns-then-i-eq0
returns-then-i-eq0 c = search (eq-eqb, ne_eqb)

pub returns-then-i-eq1 : goal.returns-then-i-eq1
returns-then-i-eq1 c = search (eq-eqb, ne_eqb)

pub returns-then-i-eq2 : goal.returns-then-i-eq2
returns-then-i-eq2 c = search (eq-eqb, ne_eqb)

pub returns : goal.returns
returns c = search (eq-eqb, ne_eqb)
