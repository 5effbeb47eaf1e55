use native.Mathlib.Omega.{arith}
use Rattle.table.proofs.Rows.{same}
use Rattle.table.proofs.row_of.Goals as goal

pub returns : goal.returns
returns c =
    let g = c.struct_known-13-1.given in
    let r = g.0 in
    let x = g.1.0 in
    same _ (omega (arith, r)) (omega (arith, r))
    (record { one = omega (arith, r); two = omega (arith, r); three = omega (arith, r); four = omega (arith, r) })
    (record { one = omega (arith, x); two = omega (arith, x); three = omega (arith, x); four = omega (arith, x) }) (omega (arith, g))
    (omega (arith, g)) (omega (arith, g))
