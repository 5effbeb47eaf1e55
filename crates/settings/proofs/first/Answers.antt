use mathlib.Core.Path.{◌≡◌, refl, sym, ◌∙◌, ap}
use mathlib.Core.Bool.{not}
use native.Mathlib.Omega.{arith}
use Rattle.rules.specs.Count.{all_up_to}
use Rattle.rules.proofs.Lists.{all_more, not_all}
use Rattle.settings.proofs.Laws.{not_found, is_found}
use Rattle.settings.proofs.first.Goals as goal

pub loop-i-init : goal.loop-i-init
unfolding all_up_to
loop-i-init g c = λ within h. refl

pub returns-then-f : goal.returns-then-f
returns-then-f g c = λ within h.
    c.if-f.true
    ∙ sym (ap not (not_all within c.args.n c.loop-i.i (omega arith) (is_found (within c.loop-i.i) (h c.loop-i.i _ (omega arith) c.fault-f.ensures) c.if-f.true)))

pub loop-i-preserved : goal.loop-i-preserved
loop-i-preserved g c = λ within h.
    all_more within c.loop-i.i (c.loop-i.invariant within h) (not_found (within c.loop-i.i) (h c.loop-i.i _ (omega arith) c.fault-f.ensures) c.if-f.false)

pub returns : goal.returns
returns g c = λ within h.
    let e : c.loop-i.i ≡ c.args.n = omega arith in
    c.none.ensures ∙ sym (ap not (rw e at (c.loop-i.invariant within h)))
