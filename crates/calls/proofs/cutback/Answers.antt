use Rattle.calls.proofs.Steps.{cut}
use Rattle.calls.proofs.cutback.Goals as goal

pub returns-else-k-products : goal.returns-else-k-products
returns-else-k-products c = search cut
