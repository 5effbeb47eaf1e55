use mathlib.Core.Path.{refl}
use native.Mathlib.Omega.{arith}
use borrow.Author.Rules.{rules}
use borrow.Author.Tests.{tests, lt-ltb}
use lib.Dec.{eqb}
use lib.ListN.{get_or}
use Prim.Native.Nat.{◌+◌}
use Rattle.rules.specs.Layout.{loaded}
use Rattle.rules.proofs.Ranges.{all_below}
use Rattle.bids.proofs.More.{each_is}
use Rattle.bids.proofs.priorities_fit.Goals as goal

pub returns-then-switches-eq0 : goal.returns-then-switches-eq0
returns-then-switches-eq0 c = rw c.if-switches-eq0.true

pub returns : goal.returns
returns c =
    let n = c in
    let a = n.args in
    let e = each_is (loaded a.s.now) a.b a.lines n.numbers_of-counts.ensures n.requires.few in
    let once = all_below (λ k. eqb (get_or n.numbers_of-counts.result (k + 1) 0) 1) a.t.sums.rising refl (λ x b q k. search (rules, tests)) c.all-once.ensures.ran in
    rw (lt-ltb 0 a.switches (omega (arith, n.if-switches-eq0.false)), once, e)
