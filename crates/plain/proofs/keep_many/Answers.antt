use mathlib.Core.Path.{◌≡◌, ap}
use Prim.Native.Nat.{◌-◌}
use native.Mathlib.Omega.{arith}
use Rattle.rules.specs.Keep.{kept}
use Rattle.rules.specs.Plain.{keep_many}
use Rattle.rules.specs.Round.{drawn}
use Rattle.table.specs.Rows.{places_in}
use Rattle.plain.proofs.Loops.{many_keeping, many_ends, many_stops, many_again}
use Rattle.plain.proofs.keep_many.Goals as goal

pub loop-init : goal.loop-init
loop-init c =
    let a = c.args in
    let all : a.many - 0 ≡ a.many = omega arith in
    record {
      product = c.requires.1;
      going = c.requires.0;
      same = ap (λ k. keep_many a.products a.bidders (drawn a.draw.now) k (kept (places_in a.ps.now) a.count) a.p) all;
    }

pub keep_next-requires : goal.keep_next-requires
keep_next-requires c = many_keeping c.loop.invariant

pub returns-then-not-keep_next : goal.returns-then-not-keep_next
returns-then-not-keep_next c = many_stops c.loop.invariant c.keep_next.ensures c.if-not-keep_next.true

pub overflow_add-all : goal.overflow_add-all
overflow_add-all c = omega (arith, c.loop.invariant.going.small)

pub loop-preserved : goal.loop-preserved
loop-preserved c =
    many_again c.loop.invariant c.keep_next.ensures c.if-not-keep_next.false _ (omega arith) _ (omega (arith, c.loop-test.true))

pub returns : goal.returns
returns c = many_ends c.loop.invariant (omega (arith, c.loop-test.false))
