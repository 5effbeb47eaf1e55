-- `storing::lot` meets its contract: the fields are one run. Assumes nothing.
use mathlib.Core.Path.{◌∙◌}
use native.Mathlib.Numerals.{towards_suc}
use Rattle.storing.proofs.lot.Goals as goal

pub returns : goal.returns
returns c = c.three.ensures ∙ rw c.one.ensures (simp towards_suc)
