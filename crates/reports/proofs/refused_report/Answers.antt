use Rattle.reports.proofs.refused_report.Goals as goal

pub returns : goal.returns
returns c = rw (c.none-records.ensures, c.no_prices-prices.ensures)
