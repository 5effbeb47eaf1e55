use Rattle.calls.proofs.Steps.{returned_once}
use Rattle.calls.proofs.return_box.Goals as goal

pub returns : goal.returns
returns c = search returned_once
