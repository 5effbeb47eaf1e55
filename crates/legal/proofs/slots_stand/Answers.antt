use mathlib.Core.Path.{refl}
use borrow.Author.Rules.{rules}
use borrow.Author.Tests.{tests}
use Rattle.rules.specs.Layout.{loaded}
use Rattle.rules.specs.Legal.{slot_stands}
use Rattle.rules.proofs.Ranges.{all_below}
use Rattle.legal.proofs.slots_stand.Goals as goal

pub returns : goal.returns
returns c = all_below (slot_stands (loaded c.args.s.now)) 32 refl (λ x b q k. search (rules, tests)) c.all.ensures.ran
