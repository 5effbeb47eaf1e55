use Rattle.std.proofs.Common.{length, sym, ◌≡◌, ◌∙◌, arith, rules}
use Rattle.text.proofs.Laws.{run_more, run_stop, run_none}
use Rattle.text.proofs.run_end.Goals as goal

pub loop-i-preserved : goal.loop-i-preserved
loop-i-preserved c =
    let a = c.args in
    sym (run_more a.s.now a.run c.loop-i.i (length a.s.now) (omega arith) (sym c.goes_on.ensures ∙ c.if-not-goes_on.false)) ∙ c.loop-i.invariant

pub returns-then-not-goes_on : goal.returns-then-not-goes_on
returns-then-not-goes_on c =
    let a = c.args in
    (sym (run_stop a.s.now a.run c.loop-i.i (length a.s.now) (omega arith) (sym c.goes_on.ensures ∙ c.if-not-goes_on.true)) ∙ c.loop-i.invariant, search rules)

pub returns : goal.returns
returns c =
    let a = c.args in
    let e : length a.s.now ≡ c.loop-i.i = omega arith in
    (e ∙ sym (run_none a.s.now a.run c.loop-i.i (length a.s.now) (omega arith)) ∙ c.loop-i.invariant, search rules)
