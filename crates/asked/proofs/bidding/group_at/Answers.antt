use mathlib.Core.Path.{sym}
use Rattle.std.proofs.lemmas.Result.{err_from_is_err_and}
use Rattle.asked.specs.Groups.{group_at}
use Rattle.asked.proofs.bidding.group_at.Goals as goal

pub returns-in_err-t : goal.returns-in_err-t
unfolding group_at
returns-in_err-t c =
    let p = err_from_is_err_and c.from_residual.result c.from_residual.ensures.1 in
    rw (p.1, p.2, sym c.in_err-t.ensures)

pub returns-in_err-withdrawn : goal.returns-in_err-withdrawn
unfolding group_at
returns-in_err-withdrawn c =
    let p = err_from_is_err_and c.from_residual-in_err-withdrawn.result c.from_residual-in_err-withdrawn.ensures.1 in
    rw (p.1, p.2, sym c.in_ok-t.ensures, sym c.in_err-withdrawn.ensures)

pub returns-in_err-k : goal.returns-in_err-k
unfolding group_at
returns-in_err-k c =
    let p = err_from_is_err_and c.from_residual-in_err-k.result c.from_residual-in_err-k.ensures.1 in
    rw (p.1, p.2, sym c.in_ok-t.ensures, sym c.in_ok-withdrawn.ensures, sym c.in_err-k.ensures)

pub returns : goal.returns
unfolding group_at
returns c =
    rw (
      sym c.in_ok-t.ensures,
      sym c.in_ok-withdrawn.ensures,
      sym c.in_ok-k.ensures,
      c.two_bytes.ensures,
      c.one_byte.ensures,
    )
