use Rattle.rules.proofs.Numbered.{accepted}
use Rattle.numbers.proofs.StateLaws.{lent, standing}
use Rattle.numbers.proofs.cutback_number.Goals as goal

pub may_cut-requires : goal.may_cut-requires
may_cut-requires c = lent _ (standing _ (accepted tt _ c.in_ok-state_number.ensures))
