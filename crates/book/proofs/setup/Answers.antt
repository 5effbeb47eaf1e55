use mathlib.Core.Path.{◌∙◌}
use borrow.Author.Rules.{rules}
use borrow.Author.Tests.{tests}
use Rattle.rules.specs.Layout.{loaded}
use Rattle.rules.specs.Parts.{row}
use Rattle.rules.specs.Settings.{setup, item, target_of, cap_of, start_of, initial_of, percent_of, decrement_of}
use Rattle.rules.specs.Units.{tranches}
use Rattle.book.proofs.Loaded.{products_at, bidders_at, rows_at, items_are, eligibility_is, rows_are}
use Rattle.rules.proofs.Made.{made}
use Rattle.book.proofs.setup.Goals as goal

pub returns : goal.returns
returns c =
    let s = c.args.s.now in
    let a = loaded s in
    rw (
      c.unit.ensures,
      products_at s,
      bidders_at s,
      rows_at s,
      c.statewide-statewide.ensures,
      made (λ p. item (target_of (setup a) p) (cap_of (setup a) p) (start_of (setup a) p)) 8 (λ p y q l k. search (rules, tests)) c.from_fn-item.ensures.items ∙ items_are s,
      made (λ b. tranches (initial_of (setup a) b)) 32 (λ b y q l k. search (rules, tests)) c.from_fn-eligibility.ensures.items ∙ eligibility_is s,
      made (λ i. row (percent_of a.decrements i) (decrement_of a.decrements i)) 8 (λ i y q l k. search (rules, tests)) c.from_fn-row.ensures.items ∙ rows_are s,
    )
