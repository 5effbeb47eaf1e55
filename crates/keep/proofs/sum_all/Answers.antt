use mathlib.Core.Path.{◌∙◌, ap}
use native.Mathlib.Numerals.{add-one}
use native.Mathlib.Omega.{arith}
use Rattle.rules.specs.Accept.{held_of, left_of}
use Rattle.table.specs.Rows.{places_in}
use Rattle.table.proofs.Sums.{sums_next}
use Rattle.keep.proofs.sum_all.Goals as goal

pub loop-k-preserved : goal.loop-k-preserved
loop-k-preserved c =
    let v = c.loop-k in
    let l = c.place_at-l.ensures in
    let h = c.held-h.ensures in
    let e = ap left_of l in (
      sums_next held_of v.held (places_in c.args.ps.now) v.k _ (h.0 ∙ ap held_of l) (omega arith) v.invariant.0,
      rw add-one (omega arith),
    )
