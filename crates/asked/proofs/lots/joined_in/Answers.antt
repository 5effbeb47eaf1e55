use Rattle.asked.proofs.LotText.{fifth_lot, wrong_lot, last_lot, one_more_lot}
use native.Mathlib.Omega.{arith}
use Rattle.std.proofs.lemmas.Result.{err_from_is_err_and}
use borrow.Author.Rules.{rules}
use Rattle.asked.proofs.lots.joined_in.Goals as goal

pub loop-i-init : goal.loop-i-init
loop-i-init c = (search rules, rw c.none-lots.ensures)

pub returns-then-e-stop : goal.returns-then-e-stop
returns-then-e-stop c = last_lot _ _ _ _ _ _ c.loop-i.invariant.1 (omega arith) c.place_of-stop.ensures.0 c.lot_in.ensures c.in_ok-lot_in.was c.put-lots.ensures c.if-e-stop.true

pub loop-i-preserved : goal.loop-i-preserved
loop-i-preserved c = (search rules, one_more_lot _ _ _ _ _ _ c.loop-i.invariant.1 (omega arith) c.place_of-stop.ensures.0 c.lot_in.ensures c.in_ok-lot_in.was c.put-lots.ensures c.if-e-stop.false)

pub returns-in_err-lot_in : goal.returns-in_err-lot_in
returns-in_err-lot_in c =
    let p = err_from_is_err_and c.from_residual.result c.from_residual.ensures.1 in
    rw (p.1, p.2) (wrong_lot _ _ _ _ _ _ c.loop-i.invariant.1 (omega arith) c.place_of-stop.ensures.0 c.lot_in.ensures _ c.in_err-lot_in.was)

pub returns : goal.returns
returns c = search fifth_lot
