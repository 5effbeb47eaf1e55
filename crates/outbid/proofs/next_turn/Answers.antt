use mathlib.Core.Path.{◌≡◌, refl, ◌∙◌, ap, subst}
use Prim.Native.Nat.{◌+◌, ◌*◌}
use native.Mathlib.Numerals.{add-one}
use native.Mathlib.Omega.{arith}
use Rattle.rules.specs.Accept.{place_at}
use Rattle.rules.specs.Round.{drawn}
use Rattle.table.specs.Next.{soonest, sooner}
use Rattle.table.specs.Rows.{places_in}
use Rattle.outbid.specs.Loss.{turn_of, turn_at, Timed}
use Rattle.outbid.proofs.Laws.{small_next}
use Rattle.outbid.proofs.next_turn.Goals as goal

pub returns-then-known-lt-NOTHING : goal.returns-then-known-lt-NOTHING
returns-then-known-lt-NOTHING c = c.requires.known c.if-known-lt-NOTHING.true

pub loop-i-init : goal.loop-i-init
loop-i-init c = (refl, λ j l. absurd (let z : ⊥ = omega arith in z))

pub bidder_at-b-requires : goal.bidder_at-b-requires
bidder_at-b-requires c = (c.loop-i-test.true, c.requires.draw)

pub loop-i-preserved : goal.loop-i-preserved
loop-i-preserved c =
    let v = c.loop-i in
    let a = c.args in
    let b = c.bidder_at-b.ensures.0 in
    let t = c.turn_of-turn in
    let r = c.record-r.ensures ∙ ap (λ b. (place_at (places_in a.ps.now) (b * 8 + a.p)).holds) b in
    let e = subst (Timed t.result) r t.ensures in (
      rw add-one (c.sooner-best.ensures ∙ ap (sooner v.best v.i) e.turn
          ∙ ap (λ s. sooner s v.i (turn_of (place_at (places_in a.ps.now) (drawn a.order.now v.i * 8 + a.p)).holds))
          v.invariant.0),
      small_next (drawn a.order.now) (places_in a.ps.now) a.p v.i v.invariant.1 e.exit,
    )

pub returns : goal.returns
returns c =
    let v = c.loop-i in
    let a = c.args in
    let e : v.i ≡ a.bidders = omega (arith, c.loop-i-test.false) in
    record {
      is = v.invariant.0 ∙ ap (soonest (turn_at a.bidders (drawn a.order.now) (places_in a.ps.now) a.p)) e;
      small = λ i l. v.invariant.1 i (omega arith);
    }
