use Prim.Native.Nat.{max}
use Rattle.rules.specs.Report.{exit_if}
use Rattle.reports.proofs.highest_lot.Goals as goal

pub returns : goal.returns
returns c =
    let l = c.args.l in
    let u = c.args.unit in
    c.higher-3.ensures u (exit_if l.one) (max (exit_if l.two) (max (exit_if l.three) (exit_if l.four))) c.exit_of-one.ensures
    (c.higher-2.ensures u (exit_if l.two) (max (exit_if l.three) (exit_if l.four)) c.exit_of-two.ensures
    (c.higher.ensures u (exit_if l.three) (exit_if l.four) c.exit_of-three.ensures c.exit_of-four.ensures))
