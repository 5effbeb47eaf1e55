use mathlib.Core.Path.{◌∙◌}
use native.Mathlib.Nat.{le_antisymm}
use native.Mathlib.Omega.{arith}
use borrow.Author.Rules.{rules}
use Rattle.bids.proofs.More.{numbers_more, numbers_none}
use Rattle.bids.proofs.numbers_of.Goals as goal

pub loop-p-init : goal.loop-p-init
loop-p-init c = (search rules, numbers_none _ _)

pub overflow_add-counts : goal.overflow_add-counts
overflow_add-counts c = let h = c.loop-p.invariant.1.few c.number-k.result (omega arith) in search rules

pub loop-p-preserved : goal.loop-p-preserved
loop-p-preserved c =
    let n = c.number-k.ensures in
    (search rules, numbers_more _ c.loop-p.invariant.1 (rw c.record.ensures at n.0) n.1)

pub returns : goal.returns
returns c =
    let v = c.loop-p.invariant in
    rw (le_antisymm v.0 c.loop-p-test.false ∙ c.products-m.ensures.0) at v.1
