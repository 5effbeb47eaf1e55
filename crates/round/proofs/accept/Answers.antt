use native.Mathlib.Omega.{arith}
use Rattle.round.proofs.Bids.{accepted_with}
use Rattle.round.proofs.accept.Goals as goal

pub returns : goal.returns
returns c = accepted_with _ _ _ _ (omega arith) (omega arith)
