use Rattle.rules.proofs.Price.fall.Goals as goal

pub returns-in-Kwh : goal.returns-in-Kwh
returns-in-Kwh c = rw (c.fall.ensures, c.in-Kwh.is)

pub returns-in-MwDay : goal.returns-in-MwDay
returns-in-MwDay c = rw (c.fall-in-MwDay.ensures, c.in-MwDay.is)
