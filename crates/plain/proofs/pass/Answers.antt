use native.Mathlib.Omega.{arith}
use native.Mathlib.Numerals.{add-one}
use Rattle.plain.proofs.Loops.{visited_none, visited_next, visited_all}
use Rattle.plain.proofs.pass.Goals as goal

pub loop-i-init : goal.loop-i-init
loop-i-init c = visited_none c.requires.0

pub keep_many-all-requires : goal.keep_many-all-requires
keep_many-all-requires c =
    let g = c.loop-i.invariant.gone.going in
    (g, omega (arith, c.bidder_at-p.ensures.1, g.few))

pub loop-i-preserved : goal.loop-i-preserved
loop-i-preserved c =
    let t = c.loop-i.invariant in
    rw add-one
    (visited_next t c.loop-i-test.true c.bidder_at-p.result _ c.bidder_at-p.ensures.0
    (omega (arith, c.bidder_at-p.ensures.1, t.gone.going.few)) c.lacking-many.ensures c.keep_many-all.ensures)

pub returns : goal.returns
returns c = visited_all c.loop-i.invariant c.loop-i-test.false
