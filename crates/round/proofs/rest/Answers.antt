use Rattle.round.proofs.rest.Goals as goal

pub returns : goal.returns
returns c =
    c.no_marks.ensures _ (c.no_lines.ensures _ (c.records.ensures _ (c.free.ensures _ (c.filed.ensures _ c.as_stored.ensures.1))))
