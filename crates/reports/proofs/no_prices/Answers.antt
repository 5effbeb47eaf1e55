use Rattle.reports.proofs.no_prices.Goals as goal

pub returns : goal.returns
returns c = rw c.of.ensures
