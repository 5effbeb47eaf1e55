use Rattle.rules.proofs.Settling.{gives_one}
use Rattle.settled.proofs.report.Goals as goal

pub returns : goal.returns
returns c = gives_one _ _ _ c.report.ensures c.report-2.ensures
