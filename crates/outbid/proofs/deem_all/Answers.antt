use mathlib.Core.Path.{◌≡◌, refl, sym, subst, ap, ◌∙◌}
use Prim.Native.Nat.{◌%◌, ◌*◌}
use native.Mathlib.Numerals.{add-one}
use native.Mathlib.Omega.{arith}
use Rattle.rules.specs.Accept.{place_at}
use Rattle.rules.specs.Outbid.{deemed_up_to}
use Rattle.table.proofs.Laws.{room_set}
use Rattle.held.specs.Ticks.{is_one}
use Rattle.table.specs.Room.{Room}
use Rattle.table.specs.Rows.{places_in}
use Rattle.outbid.proofs.Laws.{fits_deem, deemed_next}
use Rattle.outbid.proofs.deem_all.Goals as goal

pub loop-k-init : goal.loop-k-init
unfolding deemed_up_to
loop-k-init c = (refl, c.requires.1)

pub loop-k-preserved : goal.loop-k-preserved
loop-k-preserved c =
    let v = c.loop-k in
    let a = c.args in
    let w = places_in v.ps in
    let tick = is_one a.ticks.now in
    let e = c.deem_at.ensures in (
      e ∙ rw add-one (deemed_next tick (places_in a.ps.now) w v.k v.invariant.0),
      subst Room (sym e) (room_set w v.invariant.1 v.k _ (omega arith)
          (fits_deem (tick (v.k % 8)) (place_at w v.k) (v.invariant.1.each v.k))),
    )

pub returns : goal.returns
returns c =
    let v = c.loop-k in
    let e : v.k ≡ c.args.bidders * 8 = omega (arith, c.loop-k-test.false) in
    (v.invariant.0 ∙ ap (deemed_up_to (is_one c.args.ticks.now) (places_in c.args.ps.now)) e, v.invariant.1)
