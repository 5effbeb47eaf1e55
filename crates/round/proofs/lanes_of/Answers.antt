use mathlib.Core.Path.{◌≡◌, refl}
use borrow.Author.Rules.{rules}
use Rattle.rules.specs.Units.{amount_of, quote}
use Rattle.rules.specs.Settings.{setup, target_of}
use Rattle.rules.specs.Bid.{price_at, before_at}
use Rattle.rules.specs.Layout.{loaded}
use Rattle.rules.proofs.Made.{made_each}
use Rattle.round.proofs.lanes_of.Goals as goal

pub returns : goal.returns
returns c = (
  record {
    target = λ p h. made_each (λ p t. t ≡ target_of (setup (loaded c.args.s.now)) p) 8 (λ x y q l k. search rules) c.from_fn.ensures.items p 0 h;
    price = λ p h. made_each (λ p x. amount_of x.price ≡ price_at (loaded c.args.s.now) p) 8 (λ x y q l k. search rules) c.from_fn-2.ensures.items p (quote 0 0) h;
    before = λ p h. made_each (λ p x. amount_of x.price ≡ before_at (loaded c.args.s.now) p) 8 (λ x y q l k. search rules) c.from_fn-3.ensures.items p (quote 0 0) h;
  },
  refl,
)
