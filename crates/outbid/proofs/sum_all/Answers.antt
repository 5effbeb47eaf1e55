use mathlib.Core.Path.{◌∙◌, ap}
use native.Mathlib.Numerals.{add-one}
use native.Mathlib.Omega.{arith}
use Rattle.rules.specs.Accept.{held_of, kept_of}
use Rattle.rules.specs.Held.{held_in, kept_in}
use Rattle.table.specs.Rows.{places_in}
use Rattle.table.proofs.Sums.{sums_next}
use Rattle.outbid.proofs.sum_all.Goals as goal

pub loop-k-preserved : goal.loop-k-preserved
loop-k-preserved c =
    let v = c.loop-k in
    let ps = places_in c.args.ps.now in
    let r = c.record-r.ensures in
    let h = c.held-h.ensures in
    let x = c.kept-x.ensures in
    let e = x.0 ∙ ap kept_in r in (
      sums_next held_of v.held ps v.k _ (h.0 ∙ ap held_in r) (omega arith) v.invariant.0,
      sums_next kept_of v.kept ps v.k _ e (omega arith) v.invariant.1,
      rw add-one (omega arith),
      omega arith,
    )
