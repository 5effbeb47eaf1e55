use Rattle.cutback.proofs.target_limits.Goals as goal

pub returns : goal.returns
returns c = rw (c.under.ensures, c.target-had.ensures)
