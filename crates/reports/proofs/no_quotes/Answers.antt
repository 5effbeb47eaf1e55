use Rattle.reports.proofs.no_quotes.Goals as goal

pub returns : goal.returns
returns c = rw c.of.ensures
