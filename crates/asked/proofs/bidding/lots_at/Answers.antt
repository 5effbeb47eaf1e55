use mathlib.Core.Path.{sym}
use Rattle.std.proofs.lemmas.Result.{err_from_is_err_and}
use Rattle.asked.specs.Groups.{lots_at}
use Rattle.asked.proofs.bidding.lots_at.Goals as goal

pub returns-in_err-l : goal.returns-in_err-l
unfolding lots_at
returns-in_err-l c =
    let p = err_from_is_err_and c.from_residual.result c.from_residual.ensures.1 in
    rw (p.1, p.2, sym c.word-w.ensures.0, sym c.in_err-l.ensures)

pub returns : goal.returns
unfolding lots_at
returns c = rw (sym c.word-w.ensures.0, sym c.in_ok-l.ensures)
