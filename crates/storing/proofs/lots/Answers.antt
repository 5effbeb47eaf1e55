-- `storing::lots` meets its contract: the fields are one run. Assumes nothing.
use mathlib.Core.Path.{◌∙◌}
use Rattle.storing.proofs.Runs.{lots_run}
use Rattle.storing.proofs.lots.Goals as goal

pub returns : goal.returns
returns c =
    let c₁ = c in
    let c₂ = c₁ in
    let c₃ = c₂ in
    let c₄ = c₃ in
    let a = c₄.args in
    c₁.lot-4.ensures ∙ rw (c₂.lot-3.ensures, c₃.lot-2.ensures, c₄.lot.ensures) (lots_run a.s.now a.k a.l)
