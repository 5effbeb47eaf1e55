use mathlib.Core.Path.{sym}
use Rattle.std.proofs.lemmas.Result.{err_from_is_err_and}
use Rattle.asked.proofs.LotText.{no_lot_lem, no_at, second_at, two_numbers}
use Rattle.asked.proofs.lots.lot_in.Goals as goal

pub returns-then-a-e : goal.returns-then-a-e
returns-then-a-e c = search no_lot_lem

pub returns-then-k-e : goal.returns-then-k-e
returns-then-k-e c = search no_at

pub returns-then-second-e : goal.returns-then-second-e
returns-then-second-e c = search second_at

pub returns-in_err-n : goal.returns-in_err-n
returns-in_err-n c =
    let p = err_from_is_err_and c.from_residual.result c.from_residual.ensures.1 in
    two_numbers _ _ _ c.if-a-e.false c.place_of-k.ensures.0 c.if-k-e.false c.place_of-second.ensures.0 c.if-second-e.false
    (rw (p.1, p.2, sym c.in_err-n.ensures))

pub returns-in_err-exit : goal.returns-in_err-exit
returns-in_err-exit c =
    let p = err_from_is_err_and c.from_residual-in_err-exit.result c.from_residual-in_err-exit.ensures.1 in
    two_numbers _ _ _ c.if-a-e.false c.place_of-k.ensures.0 c.if-k-e.false c.place_of-second.ensures.0 c.if-second-e.false
    (rw (p.1, p.2, sym c.in_ok-n.ensures, sym c.in_err-exit.ensures))

pub returns : goal.returns
returns c =
    two_numbers _ _ _ c.if-a-e.false c.place_of-k.ensures.0 c.if-k-e.false c.place_of-second.ensures.0 c.if-second-e.false
    (rw (sym c.in_ok-n.ensures, sym c.in_ok-exit.ensures, c.two_bytes.ensures))
