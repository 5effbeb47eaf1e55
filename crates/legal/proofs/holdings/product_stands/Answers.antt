use mathlib.Core.Bool.{◌&&◌}
use mathlib.Core.Path.{◌∙◌, ap, ap₂}
use borrow.Author.Tests.{le-ltb, lt-ltb}
use lib.Dec.{eqb, leb, ltb}
use Rattle.held.proofs.Found.{implied}
use Rattle.legal.proofs.holdings.product_stands.Goals as goal

pub returns-then-p-products : goal.returns-then-p-products
returns-then-p-products c =
    let q = c in
    rw (
      ← c.products.ensures.0,
      le-ltb _ _ c.if-p-products.true,
      c.mark-mark.ensures,
      q.amount-x.ensures,
      q.price.ensures.1,
      q.amount-q.ensures,
      q.before-2.ensures.1,
    )

pub returns : goal.returns
returns c =
    let r = c in
    let t = r in
    let ph = t in
    let start = ph in
    let d = start in
    let k = d in
    let q = k in
    let h = q.requires in
    let ex = q.amount-x.ensures ∙ q.price.ensures.1 in
    let eq = q.amount-q.ensures ∙ q.before-2.ensures.1 in
    let es = ph.amount-start.ensures ∙ start.start.ensures.1 in
    let fell = ap₂ ltb ex eq in
    let is_open = ap (λ x. eqb x 1) ph.phase-open.ensures in
    let some = ap (ltb 0) (h.0.kept _ h.1) in
    let may = ap₂ ◌&&◌ is_open (ap₂ ◌&&◌ (ap (leb 2) r.round.ensures) t.ticked-ticked.ensures) in
    let marked = implied (ap (ltb 0) k.mark-mark.ensures) (ap₂ ◌&&◌ (ap (λ x. leb x 1) k.mark-mark.ensures) may) in
    rw (← d.products.ensures.0, lt-ltb _ _ d.if-p-products.false)
    (ap₂ ◌&&◌ (ap (leb 1) ex)
    (ap₂ ◌&&◌ (ap₂ leb ex eq)
    (ap₂ ◌&&◌ (ap₂ leb eq es)
    (ap₂ ◌&&◌ (implied (ap₂ ◌&&◌ is_open t.ticked-ticked.ensures) fell) (ap₂ ◌&&◌ (implied some (ap₂ ◌&&◌ fell c.met.ensures)) marked)))))
