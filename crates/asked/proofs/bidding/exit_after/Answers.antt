use mathlib.Core.Path.{sym}
use Rattle.std.proofs.lemmas.Result.{err_from_is_err_and}
use Rattle.asked.specs.Groups.{exit_after}
use Rattle.asked.proofs.Grouping.{an_exit}
use Rattle.asked.proofs.bidding.exit_after.Goals as goal

pub returns-in_err-exit : goal.returns-in_err-exit
unfolding exit_after
returns-in_err-exit c =
    let p = err_from_is_err_and c.from_residual.result c.from_residual.ensures.1 in
    rw (p.1, p.2, sym c.in_err-exit.ensures)

pub returns : goal.returns
returns c = search (an_exit, c.in_ok-exit.ensures)
