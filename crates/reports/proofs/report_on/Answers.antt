use Rattle.rules.specs.Report.{report_on}
use Rattle.reports.proofs.report_on.Goals as goal

pub returns : goal.returns
unfolding report_on
returns c =
    rw (
      c.free-free.ensures,
      c.of-phase.ensures,
      c.phase.ensures,
      c.of-range.ensures,
      c.excess.ensures.0,
      c.own_records-records.ensures,
      c.going_prices-prices.ensures,
    )
