use mathlib.Core.Path.{◌∙◌, ap}
use Prim.Native.Nat.{◌%◌}
use native.Mathlib.Nat.{le_antisymm}
use native.Mathlib.Omega.{arith}
use borrow.Author.Rules.{rules}
use Rattle.rules.specs.Accept.{held_of}
use Rattle.rules.specs.Held.{held_in}
use Rattle.table.specs.Rows.{places_in}
use Rattle.table.proofs.Sums.{sums_none, sums_next, sums_all, held_most}
use Rattle.table.proofs.held_all.Goals as goal

pub loop-k-init : goal.loop-k-init
loop-k-init c = (search rules, sums_none held_of _)

pub overflow_add-held : goal.overflow_add-held
overflow_add-held c =
    let v = c in
    omega (arith, v.loop-k.invariant.1.small (v.loop-k.k % 8) (omega arith), c.held-h.ensures.1, v.loop-k.invariant.0, v.requires)

pub loop-k-preserved : goal.loop-k-preserved
loop-k-preserved c =
    let v = c.loop-k in
    let a = c.args in
    let h = c.held-h.ensures in
    (search rules, sums_next held_of v.held (places_in a.ps.now) v.k _ (h.0 ∙ ap held_in c.«record».ensures) (omega arith) v.invariant.1)

pub returns : goal.returns
returns c =
    let v = c.loop-k in
    let s = c in
    let S = sums_all held_of v.held (places_in s.args.ps.now) v.k s.args.bidders (le_antisymm v.invariant.0 c.loop-k-test.false) v.invariant.1 in
    record { sums = S; small = λ q l. omega (arith, S.each q l, held_most s.args.ps.now q s.args.bidders, s.requires) }
