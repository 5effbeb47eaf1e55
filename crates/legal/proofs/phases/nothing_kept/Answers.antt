use mathlib.Core.Path.{◌∙◌, ap}
use native.Mathlib.Omega.{arith}
use borrow.Author.Rules.{rules}
use borrow.Author.Tests.{tests}
use lib.Dec.{eqb}
use lib.ListN.{get_or}
use Rattle.rules.specs.Layout.{loaded}
use Rattle.rules.proofs.Lists.{all_ext}
use Rattle.rules.proofs.Ranges.{all_below}
use Rattle.legal.proofs.phases.nothing_kept.Goals as goal

pub returns : goal.returns
returns c =
    let h = c.requires in
    let few = h.0.counts.products in
    all_below (λ p. eqb (get_or c.args.kept.now p 0) 0) (loaded c.args.s.now).terms.products (ap (λ n. record { start = 0; end = n }) c.products-m.ensures.0)
    (λ x b q k. search (rules, tests)) c.all.ensures.ran
    ∙ all_ext _ _ _ (λ p l. ap (λ x. eqb x 0) (h.1 p (omega arith)))
