-- `storing::line` meets its contract: the fields are one run. Assumes nothing.
use mathlib.Core.Path.{◌∙◌}
use Rattle.storing.proofs.Runs.{line_run}
use Rattle.storing.proofs.line.Goals as goal

pub returns : goal.returns
returns c =
    let c₁ = c in
    let c₂ = c₁ in
    let c₃ = c₂ in
    let a = c₃.args in
    c₁.byte.ensures ∙ rw (c₂.lots.ensures, c₃.one.ensures) (line_run a.s.now a.k a.l)
