use mathlib.Core.Path.{refl}
use native.Mathlib.Omega.{arith}
use borrow.Author.Rules.{rules}
use borrow.Author.Tests.{tests}
use Rattle.keep.specs.Step.{short_by}
use Rattle.keep.proofs.First.{first_below}
use Rattle.keep.proofs.first_short.Goals as goal

pub returns : goal.returns
returns c =
    first_below (short_by c.args.held.now c.args.targets.now c.args.ticks.now) 0 refl _ _ c.args.products (omega arith) refl (λ x b q k. search (rules, tests)) c.find.ensures.ran
