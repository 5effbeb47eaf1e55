use Rattle.store.proofs.Laws.{three_summed}
use Rattle.store.proofs.journal.sum_of.Goals as goal

pub returns : goal.returns
returns c =
    three_summed _ _ _ _ _ _ _ _ c.begun.ensures c.with-a.ensures c.with-b.ensures c.with.ensures c.digits.ensures
