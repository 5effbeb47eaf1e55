use Rattle.rules.specs.Report.{result_of}
use Rattle.reports.proofs.result_of.Goals as goal

pub returns : goal.returns
unfolding result_of
returns c = rw (c.awards-tranches.ensures, c.paid_prices-prices.ensures)
