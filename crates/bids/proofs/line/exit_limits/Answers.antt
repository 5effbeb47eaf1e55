use mathlib.Core.Path.{sym, ◌∙◌}
use Rattle.rules.specs.Units.{amount_of}
use Rattle.rules.proofs.Allowed.{next_leb}
use Rattle.bids.proofs.More.{none_above}
use Rattle.bids.proofs.line.exit_limits.Goals as goal

pub returns-then-last : goal.returns-then-last
returns-then-last c =
    let q = c in
    let a = q.args in
    λ x h. none_above (amount_of a.p) (amount_of a.q) x (sym q.amount-last.ensures ∙ c.if-last.true) h

pub returns : goal.returns
returns c = λ x h. let e = next_leb (amount_of c.args.p) x in cc
