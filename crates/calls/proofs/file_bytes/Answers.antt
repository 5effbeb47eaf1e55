use Rattle.calls.proofs.Steps.{filed}
use Rattle.calls.proofs.file_bytes.Goals as goal

pub returns : goal.returns
returns c = search filed
