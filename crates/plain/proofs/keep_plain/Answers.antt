use mathlib.Core.Path.{◌≡◌, refl, ap, ◌∙◌}
use Prim.Native.Nat.{ℕ, ◌-◌}
use native.Mathlib.Omega.{arith}
use lib.ListN.{length-replicate}
use Rattle.rules.specs.Keep.{kept}
use Rattle.table.specs.Rows.{places_in}
use Rattle.plain.proofs.Loops.{rest, turn_ends, turn_idle, turn_again}
use Rattle.plain.proofs.keep_plain.Goals as goal

pub number_all-requires : goal.number_all-requires
number_all-requires c = (length-replicate {A = ℕ} 256 0, length-replicate {A = ℕ} 256 0)

pub sum_all-most-requires : goal.sum_all-most-requires
sum_all-most-requires c = (c.requires.0.draw.few, refl)

pub loop-init : goal.loop-init
loop-init c =
    let a = c.args in
    let g = c.requires.0 in
    let h = c.sum_all-most.ensures in
    let all : c.sum_all-most.result - 0 ≡ c.sum_all-most.result = omega arith in
    record {
      going = record {
        few = g.few;
        draw = g.draw;
        working = record {
          book = record { room = g.room; few = g.draw.few; holds = h.holds };
          numbers = c.number_all.ensures;
        };
        small = omega (arith, h.small, h.every_left);
      };
      same =
          ap (λ f. rest a.products a.bidders a.targets.now a.ticks.now a.draw.now a.order.now f
          (kept (places_in a.ps.now) 0)) (all ∙ h.every_left);
    }

pub pass-all-requires : goal.pass-all-requires
pass-all-requires c =
    (c.loop.invariant.going, c.requires.1)

pub returns-then-all-count : goal.returns-then-all-count
returns-then-all-count c =
    let g = c.pass-all.ensures in
    (turn_idle c.loop.invariant g (omega (arith, c.loop-test.true)) c.if-all-count.true, g.going.working.book.room)

pub loop-preserved : goal.loop-preserved
loop-preserved c =
    turn_again c.loop.invariant c.pass-all.ensures c.if-all-count.false _ (omega (arith, c.loop-test.true))

pub returns : goal.returns
returns c = let t = c.loop.invariant in (turn_ends t (omega (arith, c.loop-test.false)), t.going.working.book.room)
