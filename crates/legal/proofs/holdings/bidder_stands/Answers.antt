use mathlib.Core.Path.{◌∙◌, ap}
use native.Mathlib.Nat.{le_antisymm}
use native.Mathlib.Numerals.{add-one}
use native.Mathlib.Omega.{arith}
use borrow.Author.Tests.{le-ltb, lt-ltb}
use Rattle.rules.specs.Held.{held_in}
use Rattle.legal.proofs.holdings.bidder_stands.Goals as goal

pub returns-then-b-bidders : goal.returns-then-b-bidders
returns-then-b-bidders c = rw (← c.bidders.ensures.0, le-ltb _ _ c.if-b-bidders.true, c.free-f.ensures)

pub loop-p-preserved : goal.loop-p-preserved
loop-p-preserved c = let e = ap held_in c.record-own.ensures in rw add-one (omega arith)

pub returns : goal.returns
returns c =
    let t = c in
    let m = t in
    let d = m in
    let v = t.loop-p.invariant in
    rw (
      ← d.bidders.ensures.0,
      lt-ltb _ _ d.if-b-bidders.false,
      rw (le_antisymm v.0 t.loop-p-test.false ∙ m.products-m.ensures.0) at v.1.1,
      d.free-f.ensures,
      c.initial-most.ensures,
    )
