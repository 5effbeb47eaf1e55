use mathlib.Core.Path.{◌≡◌, ◌∙◌}
use Prim.Native.Nat.{◌-◌}
use native.Mathlib.Omega.{arith}
use Rattle.asked.specs.Groups.{groups_at}
use Rattle.asked.proofs.Grouping.{at_limit, at_end, at_wrong, one_more}
use borrow.Author.Rules.{rules}
use Rattle.asked.proofs.bidding.take_groups.Goals as goal

pub loop-n-init : goal.loop-n-init
unfolding groups_at
loop-n-init c =
    let f : c.most_of-top.result - 0 ≡ c.most_of-top.result = omega arith in
    (search rules, rw (f, c.most_of-top.ensures.0, c.none-lines.ensures))

pub returns : goal.returns
returns c =
    let f : c.most_of-top.result ≡ c.loop-n.n = omega arith in
    let r = at_limit _ _ _ _ _ _ c.loop-n.invariant.1 (omega arith) in
    (f ∙ r.0, r.1)

pub returns-then-w : goal.returns-then-w
returns-then-w c =
    let l = c in
    at_end _ _ _ _ _ _ l.loop-n.invariant.1 (omega arith) c.word-w.ensures.0 c.if-w.true

pub returns-in-Err : goal.returns-in-Err
returns-in-Err c =
    let f = c in
    let g = f in
    let w = g in
    at_wrong _ _ _ _ _ _ w.loop-n.invariant.1 (omega arith) w.word-w.ensures.0 g.if-w.false g.group_at.ensures _ f.in-Err.is

pub loop-n-preserved : goal.loop-n-preserved
loop-n-preserved c = (search rules, search one_more)
