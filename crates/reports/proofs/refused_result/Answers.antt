use Rattle.reports.proofs.refused_result.Goals as goal

pub returns : goal.returns
returns c = rw c.no_quotes-prices.ensures
