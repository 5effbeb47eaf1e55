use mathlib.Core.Path.{◌≡◌, refl, ap, ◌∙◌}
use Prim.Native.Nat.{ℕ, ◌-◌}
use native.Mathlib.Omega.{arith}
use lib.ListN.{length-replicate}
use Rattle.rules.specs.Keep.{keep_loop}
use Rattle.rules.specs.Round.{drawn}
use Rattle.held.specs.Ticks.{is_one}
use Rattle.table.specs.Room.{target_on}
use Rattle.table.specs.Rows.{places_in}
use Rattle.keep.proofs.Laws.{held_at}
use Rattle.keep.proofs.Turn.{turn_out, turn_none, turn_keeping, turn_idle, turn_again}
use Rattle.keep.proofs.keep_all.Goals as goal

pub number_all-requires : goal.number_all-requires
number_all-requires c = (length-replicate {A = ℕ} 256 0, length-replicate {A = ℕ} 256 0)

pub sum_all-most-requires : goal.sum_all-most-requires
sum_all-most-requires c = (c.requires.draw.few, refl)

pub loop-init : goal.loop-init
loop-init c =
    let a = c.args in
    let h = c.sum_all-most.ensures in
    let all : c.sum_all-most.result - 0 ≡ c.sum_all-most.result = omega arith in
    record {
      few = c.requires.few;
      draw = c.requires.draw;
      working = record {
        book = record { room = c.requires.room; few = c.requires.draw.few; holds = h.holds };
        numbers = c.number_all.ensures;
      };
      some = omega (arith, h.small);
      same =
          ap (λ f. keep_loop a.products a.bidders (target_on a.targets.now) (is_one a.ticks.now) (drawn a.order.now) f
          (places_in a.ps.now) 0) (all ∙ h.every_left);
    }

pub first_short-q-requires : goal.first_short-q-requires
first_short-q-requires c =
    let t = c.loop.invariant in
    (t.few, λ q l. omega (arith, held_at _ _ _ t.working.book q l))

pub returns-in_default : goal.returns-in_default
returns-in_default c =
    let f = c.first_short-q in
    let t = c.loop.invariant in
    (turn_none t f.result f.ensures c.in_default.is, t.working.book.room)

pub keep_next-requires : goal.keep_next-requires
keep_next-requires c =
    let f = c.first_short-q in
    turn_keeping c.loop.invariant f.result f.ensures _ c.in-Some.is

pub returns-then-not-keep_next : goal.returns-then-not-keep_next
returns-then-not-keep_next c =
    let f = c.first_short-q in
    let n = c.keep_next.ensures in
    let e = turn_idle c.loop.invariant f.result f.ensures _ c.in-Some.is n c.if-not-keep_next.true in
    (e, n.working.book.room)

pub overflow_add-count : goal.overflow_add-count
overflow_add-count c = omega (arith, c.loop.invariant.some)

pub loop-preserved : goal.loop-preserved
loop-preserved c =
    let f = c.first_short-q in
    turn_again c.loop.invariant f.result f.ensures _ c.in-Some.is c.keep_next.ensures
    c.if-not-keep_next.false _ (omega arith) _ (omega (arith, c.loop-test.true))

pub returns : goal.returns
returns c = let t = c.loop.invariant in (turn_out t (omega (arith, c.loop-test.false)), t.working.book.room)
