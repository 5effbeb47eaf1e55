-- `storing::record` meets its contract: the fields are one run. Assumes nothing.
use mathlib.Core.Path.{◌∙◌}
use Rattle.storing.proofs.Runs.{record_run}
use Rattle.storing.proofs.record.Goals as goal

pub returns : goal.returns
returns c =
    let c₁ = c in
    let c₂ = c₁ in
    let c₃ = c₂ in
    let a = c₃.args in
    c₁.lots.ensures ∙ rw (c₂.one-2.ensures, c₃.one.ensures) (record_run a.s.now a.k a.r)
