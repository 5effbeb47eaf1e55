use Prim.Native.Nat.{max}
use mathlib.Core.Path.{ap, ◌∙◌}
use Rattle.rules.specs.Held.{going_in, denied_in}
use Rattle.rules.specs.Report.{price_if, highest_lot}
use Rattle.rules.specs.Units.{price_of}
use Rattle.rules.proofs.Units.{unit_of_lem}
use Rattle.reports.proofs.highest_in.Goals as goal

pub returns : goal.returns
returns c u p q e f =
    let r = c.args.r in
    let x = c.highest_lot.ensures ∙ ap (λ v. price_of v (highest_lot r.retained)) c.unit.ensures.0 ∙ unit_of_lem u p (highest_lot r.retained) e in
    c.higher-2.ensures u (price_if (going_in r) p) (max (price_if (denied_in r) q) (highest_lot r.retained))
    (c.price_if-g.ensures u p e)
    (c.higher.ensures u (price_if (denied_in r) q) (highest_lot r.retained) (c.price_if-d.ensures u q f) x)
