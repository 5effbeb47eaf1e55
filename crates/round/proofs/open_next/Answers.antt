use Rattle.round.proofs.open_next.Goals as goal

pub returns : goal.returns
returns c =
    λ a e. c.marks.ensures _ (c.prices.ensures _ (c.round.ensures _ (c.phase.ensures a e)))
