use mathlib.Core.Path.{◌∙◌}
use native.Mathlib.Numerals.{towards_suc}
use native.Mathlib.Omega.{arith}
use Rattle.rules.specs.Parts.{seat, no_seat}
use Rattle.rules.specs.Settings.{initial_of}
use Rattle.rules.specs.Calls.{opened}
use Rattle.rules.proofs.Lists.{list_at}
use Rattle.storing.proofs.Each.{none_passed, next_passed, all_passed}
use Rattle.storing.proofs.bidders.Goals as goal

pub loop-b-init : goal.loop-b-init
loop-b-init c = none_passed

pub loop-b-preserved : goal.loop-b-preserved
unfolding opened
loop-b-preserved c =
    let d = c in
    let c₂ = d in
    let l = c₂ in
    let t = l.args.t in
    next_passed l.loop-b.invariant (omega arith)
    (rw (list_at (λ b. seat (initial_of t b) (initial_of t b)) no_seat 32 l.loop-b.b (omega arith)) (d.two-in-loop-b.ensures ∙ rw c₂.two.ensures (simp towards_suc)))

pub returns : goal.returns
returns c = all_passed c.loop-b.invariant (omega arith)
