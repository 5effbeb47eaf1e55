use mathlib.Core.Path.{refl}
use borrow.Author.Rules.{rules}
use borrow.Author.Tests.{tests}
use Rattle.card.specs.Parts.{line_writable}
use Rattle.rules.proofs.Ranges.{all_below}
use Rattle.card.proofs.lines_writable.Goals as goal

pub returns : goal.returns
returns c = all_below (line_writable c.args.products c.args.lines) 8 refl (λ x b q k. search (rules, tests)) c.all.ensures.ran
