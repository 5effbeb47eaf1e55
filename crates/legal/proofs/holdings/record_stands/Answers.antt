use Rattle.legal.proofs.holdings.record_stands.Goals as goal

pub returns-then-used : goal.returns-then-used
returns-then-used c =
    let fit = c in
    let q = fit in
    rw (q.if-used.true, fit.exits_fit-fit.ensures, q.amount.ensures, q.amount-then-used.ensures, c.held.ensures.0)

pub returns : goal.returns
returns c = rw c.if-used.false c.is_zero.ensures
