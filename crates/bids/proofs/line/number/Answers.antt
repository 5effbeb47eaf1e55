use borrow.Author.Rules.{rules}
use borrow.Author.Tests.{leb-true}
use lib.Dec.{ltb}
use Rattle.rules.proofs.Sums.{and_right}
use Rattle.bids.proofs.line.number.Goals as goal

pub returns-then-increase-l : goal.returns-then-increase-l
returns-then-increase-l c =
    let t = c.if-increase-l.true in
    let x = c.increase in
    (rw (← x.ensures.0, t), leb-true _ _ (and_right (ltb 0 x.result) _ t))

pub returns : goal.returns
returns c = (rw (← c.increase.ensures.0, c.if-increase-l.false), search rules)
