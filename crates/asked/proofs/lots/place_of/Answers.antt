use Rattle.asked.proofs.LotText.{place_more, place_here, place_none}
use mathlib.Core.Path.{◌≡◌, sym, ◌∙◌}
use native.Mathlib.Omega.{arith}
use borrow.Author.Rules.{rules}
use Rattle.asked.proofs.lots.place_of.Goals as goal

pub returns-then-s-i : goal.returns-then-s-i
returns-then-s-i c =
    let l = c in
    let a = l.args in
    (sym (place_here a.s.now a.b l.loop-i.i a.e (omega arith) c.if-s-i.true) ∙ l.loop-i.invariant.1, search rules)

pub loop-i-preserved : goal.loop-i-preserved
loop-i-preserved c =
    let l = c in
    let a = l.args in
    (search rules, sym (place_more a.s.now a.b l.loop-i.i a.e (omega arith) c.if-s-i.false) ∙ l.loop-i.invariant.1)

pub returns : goal.returns
returns c =
    let l = c in
    let a = l.args in
    let f : a.e ≡ l.loop-i.i = omega arith in
    (f ∙ sym (place_none a.s.now a.b l.loop-i.i a.e (omega arith)) ∙ l.loop-i.invariant.1, search rules)
