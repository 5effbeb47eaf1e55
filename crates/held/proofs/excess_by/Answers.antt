use mathlib.Core.Path.{◌∙◌, ap₂}
use Prim.Native.Nat.{◌+◌}
use native.Mathlib.Nat.{le_antisymm}
use native.Mathlib.Numerals.{add-one}
use native.Mathlib.Omega.{arith}
use Rattle.held.proofs.excess_by.Goals as goal

pub loop-b-preserved : goal.loop-b-preserved
loop-b-preserved c = rw add-one (omega arith)

pub returns : goal.returns
returns c =
    let n = c in
    let d = n in
    let v = c.loop-b.invariant in
    let u = d.loop-p.invariant in (
      ap₂ ◌+◌ (rw (le_antisymm u.0 d.loop-p-test.false ∙ d.products-m.ensures.0) at u.1.1)
          (rw (le_antisymm v.0 c.loop-b-test.false ∙ n.bidders-n.ensures.0) at v.1.1),
      omega arith,
    )
