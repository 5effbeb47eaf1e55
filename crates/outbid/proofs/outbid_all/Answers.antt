use mathlib.Core.Path.{refl, sym, ◌∙◌}
use mathlib.Core.List.{List}
use Prim.Native.Nat.{ℕ, ◌≤◌}
use native.Mathlib.Omega.{arith}
use Rattle.rules.specs.declared.Tranches.{Tranches}
use Rattle.rules.specs.declared.Place.{Place}
use Rattle.table.specs.Drawn.{Drawn}
use Rattle.table.specs.declared.Next.{Next}
use Rattle.table.specs.Rows.{places_in}
use Rattle.outbid.proofs.Turn.{Turn, Loop, turn_start, turn_looking, turn_none, turn_out, turn_asked, turn_much, turn_again}
use Rattle.outbid.proofs.outbid_all.Goals as goal

-- where the loop is
abbrev loop : {m n : ℕ} {targets ticks order : List ℕ} {ps₀ ps : List Place} {held kept : List ℕ} {fs : List Tranches} {count start : ℕ}
    {next : Next} {fuel : ℕ} → m ≤ 8 → Drawn n order → Turn m n targets ticks order ps₀ ps held kept fs count start next fuel → Loop
loop {m} {n} {targets} {ticks} {order} {ps₀} {ps} {held} {kept} {fs} {count} {start} {next} {fuel} few draw turn = record {
  m = m;
  n = n;
  targets = targets;
  ticks = ticks;
  order = order;
  ps₀ = ps₀;
  ps = ps;
  held = held;
  kept = kept;
  fs = fs;
  count = count;
  start = start;
  next = next;
  fuel = fuel;
  few = few;
  draw = draw;
  turn = turn;
}

pub sum_all-most-requires : goal.sum_all-most-requires
sum_all-most-requires c = record { few = c.requires.draw.few; held_none = refl; kept_none = refl }

pub loop-init : goal.loop-init
loop-init c =
    let a = c.args in
    turn_start a.products a.bidders a.targets.now a.ticks.now a.order.now (places_in a.ps.now) _ _ _
    c.requires.room c.sum_all-most.ensures _ (omega arith)

pub first_over-q-requires : goal.first_over-q-requires
first_over-q-requires c = turn_looking (loop c.requires.few c.requires.draw c.loop.invariant)

pub returns-in_default : goal.returns-in_default
returns-in_default c =
    turn_none (loop c.requires.few c.requires.draw c.loop.invariant) (sym c.first_over-q.ensures ∙ c.in_default.is)

pub lose-o-requires : goal.lose-o-requires
lose-o-requires c =
    turn_asked (loop c.requires.few c.requires.draw c.loop.invariant) c.in-Some.p (sym c.first_over-q.ensures ∙ c.in-Some.is) _
    c.known_if-known.ensures

pub put-requires : goal.put-requires
put-requires c = c.lose-o.ensures.at

pub lower-requires : goal.lower-requires
lower-requires c =
    turn_much (loop c.requires.few c.requires.draw c.loop.invariant) c.in-Some.p (sym c.first_over-q.ensures ∙ c.in-Some.is)
    c.lose-o.result c.lose-o.ensures

pub loop-preserved : goal.loop-preserved
loop-preserved c =
    rw (c.put.ensures, c.lower.ensures.0, c.lower.ensures.1)
    (turn_again (loop c.requires.few c.requires.draw c.loop.invariant) c.in-Some.p (sym c.first_over-q.ensures ∙ c.in-Some.is)
    c.lose-o.result c.lose-o.ensures _ (omega (arith, c.loop-test.true)))

pub returns : goal.returns
returns c = turn_out (loop c.requires.few c.requires.draw c.loop.invariant) (omega (arith, c.loop-test.false))
