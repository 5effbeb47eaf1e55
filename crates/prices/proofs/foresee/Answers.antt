use mathlib.Core.Path.{◌≡◌, refl, ap, ap₂, ◌∙◌}
use Prim.Native.Nat.{◌+◌, ◌<◌}
use native.Mathlib.Numerals.{add-one}
use native.Mathlib.Omega.{arith}
use lib.Dec.{eqb}
use lib.ListN.{get_or}
use borrow.Author.Rules.{rules}
use borrow.Author.Tests.{tests}
use mir.Val.{bool_byte}
use Rattle.std.specs.Prelude.{is_some}
use Rattle.std.proofs.lemmas.Iterator.{serves_from_Range}
use Rattle.rules.specs.Count.{sum_up_to, first_up_to}
use Rattle.rules.specs.Units.{amount_of, quote}
use Rattle.rules.specs.Held.{above_zero}
use Rattle.rules.specs.Bid.{one_if}
use Rattle.rules.specs.Layout.{loaded}
use Rattle.rules.proofs.Ranges.{any_below}
use Rattle.held.proofs.Found.{or_is}
use Rattle.prices.specs.Outlook.{standing_on, at_one}
use Rattle.prices.proofs.Laws.{no_next, WorkedOn, bottom_at, bottom_same, byte_is}
use Rattle.rules.proofs.Made.{made_each}
use Rattle.prices.proofs.foresee.Goals as goal

pub loop-p-preserved : goal.loop-p-preserved
loop-p-preserved c =
    let W = made_each (WorkedOn (loaded c.args.s.now).decrements c.args.held.now c.args.l) 8 (λ x y q l k. search rules)
    c.from_fn-next.ensures.items c.loop-p.p no_next (omega arith) in
    let v = c.loop-p.invariant in
    (omega arith, rw add-one (ap₂ ◌+◌ v.1 W.over))

pub any-bottom-requires-clause-callable : goal.any-bottom-requires-clause-callable
any-bottom-requires-clause-callable c =
    serves_from_Range (λ x q k. search (rules, tests))
    (λ x low high. let h : x < 8 = omega (arith, high, c.products-products.ensures.0, c.requires.0.counts.products) in search rules)

pub returns : goal.returns
returns c =
    let d = (loaded c.args.s.now).decrements in
    let ns = c.from_fn-next.result in
    let W = made_each (WorkedOn (loaded c.args.s.now).decrements c.args.held.now c.args.l) 8 (λ x y q l k. search rules)
    c.from_fn-next.ensures.items in
    let m = c.products-products.ensures.0 in
    let few : c.products-products.result < 9 = omega (arith, m, c.requires.0.counts.products) in
    let e : c.loop-p.p ≡ (loaded c.args.s.now).terms.products = omega (arith, m, c.loop-p-test.false) in
    record {
      over = c.loop-p.invariant.1 ∙ ap (sum_up_to (λ q. above_zero (standing_on d c.args.held.now c.args.l q))) e;
      stops =
          or_is (any_below (bottom_at d c.args.held.now c.args.l ns) c.products-products.result refl (λ x b q k. search (rules, tests)) c.any-bottom.ensures.ran
          ∙ bottom_same d c.args.held.now c.args.l ns c.products-products.result (λ p h. W p no_next (omega arith))
          ∙ ap (λ n. is_some (first_up_to (at_one d c.args.held.now c.args.l) n)) m) (ap (λ x. eqb x 4095) c.round.ensures);
      price = λ p h.
          ap (λ q. amount_of q.price) (made_each (λ p q. q ≡ record { price = (get_or ns p no_next).going.price }) 8 (λ x y q l k. search rules) c.from_fn.ensures.items p (quote 0 0) h)
          ∙ (W p no_next h).going.price;
      before = λ p h.
          ap (λ q. amount_of q.price) (made_each (λ p q. q ≡ record { price = (get_or ns p no_next).before }) 8 (λ x y q l k. search rules) c.from_fn-2.ensures.items p (quote 0 0) h)
          ∙ (W p no_next h).before;
      mark = λ p h.
          made_each (λ p n. n ≡ bool_byte (get_or ns p no_next).going.overridden) 8 (λ x y q l k. search rules) c.from_fn-3.ensures.items p 0 h
          ∙ byte_is _ ∙ ap one_if (W p no_next h).going.overridden;
      small = omega (arith, c.loop-p.invariant.0);
    }
