use mathlib.Core.Path.{◌≡◌}
use borrow.Author.Rules.{rules}
use Rattle.rules.specs.Units.{amount_of, quote}
use Rattle.rules.specs.Settings.{setup, start_of}
use Rattle.rules.specs.Layout.{loaded}
use Rattle.rules.proofs.Made.{made_each}
use Rattle.cutback.proofs.lanes_of.Goals as goal

pub returns : goal.returns
returns c = (
  record {
    target = λ p h. search rules;
    price = λ p h. made_each (λ p x. amount_of x.price ≡ start_of (setup (loaded c.args.s.now)) p) 8 (λ x y q l k. search rules) c.from_fn-price.ensures.items p (quote 0 0) h;
    before = λ p h. made_each (λ p x. amount_of x.price ≡ start_of (setup (loaded c.args.s.now)) p) 8 (λ x y q l k. search rules) c.from_fn-price.ensures.items p (quote 0 0) h;
  },
  search rules,
)
