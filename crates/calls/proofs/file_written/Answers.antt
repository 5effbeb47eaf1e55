use Rattle.calls.proofs.Steps.{bid}
use Rattle.calls.proofs.file_written.Goals as goal

pub returns : goal.returns
returns c = search bid
