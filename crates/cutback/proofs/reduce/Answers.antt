use Rattle.cutback.proofs.reduce.Goals as goal

pub returns : goal.returns
returns c = c.records.ensures _ (c.free.ensures _ (c.no_marks.ensures _ (c.limits.ensures _ c.as_stored.ensures.1)))
