-- What a change of one place does to what is held. Assumes nothing.
use mathlib.Core.Path.{◌≡◌, refl, sym, ◌∙◌}
use mathlib.Core.Bool.{Bool, true, false}
use mathlib.Core.List.{List}
use Prim.Native.Nat.{ℕ, ◌+◌, ◌-◌, ◌*◌, ◌≤◌, ◌<◌}
use native.Mathlib.Omega.{arith}
use borrow.Author.Tests.{eqb-true, eqb-false}
use lib.ListN.{get_or, set, length, length-set}
use lib.Seq.{get_or-set_same, get_or-set_other}
use lib.Dec.{eqb}
use Rattle.rules.specs.declared.Place.{Place}
use Rattle.rules.specs.Lots.{first_used}
use Rattle.rules.specs.Accept.{place_at, changed, column, held_of, leaving_of, leaving_at, moving_of, rise_of, retain, deny, cancel}
use Rattle.rules.proofs.Sums.{sum_ge}
use Rattle.rules.proofs.Places.{column_at, column_beside}
use Rattle.rules.proofs.LotLaws.{take_total, retain_total}
use Rattle.table.specs.Room.{Fits, Room}
use Rattle.table.proofs.Laws.{room_set, column_small}
use Rattle.keep.specs.Step.{Booked}

module _ (ps : List Place) (R : Room ps) where
  module _ (n b p : ℕ) (lb : b < n) (ln : n ≤ 32) (lp : p < 8) (x : Place) where
    in_place : b * 8 + p < length ps
    in_place = omega (arith, R.long)

    module _ (h : List ℕ) (v : ℕ) (B : Booked ps h n) (f : Fits x) (e : v + held_of (place_at ps (b * 8 + p)) ≡ get_or h p 0 + held_of x) where
      holds_by : (q : ℕ) → q < 8 → (t : Bool) → eqb q p ≡ t → get_or (set h p v) q 0 ≡ column held_of (set ps (b * 8 + p) x) q n
      holds_by q lq true f =
          let i : p < length h = omega (arith, B.holds.long) in
          let c = column_at (λ _. x) ps b p in_place held_of n lb in
          let g = B.holds.each p lp in
          let w : v ≡ column held_of (set ps (b * 8 + p) x) p n = omega arith in
          rw (eqb-true q p f, get_or-set_same) w
      holds_by q lq false f =
          let d = eqb-false q p f in
          rw get_or-set_other (B.holds.each q lq ∙ sym (column_beside (λ _. x) ps b p in_place held_of q n lp lq d))

      -- what is held of the product rises and falls with what is held at the place
      pub booked_set : Booked (set ps (b * 8 + p) x) (set h p v) n
      booked_set = record {
        room = room_set ps R (b * 8 + p) x (omega arith) f;
        few = ln;
        holds = record { long = length-set h p v ∙ B.holds.long; each = λ q lq. holds_by q lq (eqb q p) refl };
      }

module _ (ps : List Place) (h : List ℕ) (n : ℕ) (B : Booked ps h n) where
  pub held_at : (p : ℕ) → p < 8 → get_or h p 0 ≤ 3840000
  held_at p l = let c = column_small ps B.room n p B.few in let e = B.holds.each p l in omega arith

  module _ (b p : ℕ) (lb : b < n) (lp : p < 8) where
    -- what is held at a place is part of what is held of its product
    pub held_here : held_of (place_at ps (b * 8 + p)) ≤ get_or h p 0
    held_here =
        let s = sum_ge (λ i. held_of (place_at ps (i * 8 + p))) n b lb in
        let e = B.holds.each p lp in
        omega arith

    pub retain_booked : 0 < leaving_of (place_at ps (b * 8 + p)) → Booked (changed retain ps (b * 8 + p)) (set h p (get_or h p 0 + 1)) n
    retain_booked some =
        let x = place_at ps (b * 8 + p) in
        let f = B.room.each (b * 8 + p) in
        let less = take_total x.leaving some in
        let more = retain_total x.holds.retained (first_used x.leaving) (leaving_at x) in
        booked_set ps B.room n b p lb B.few lp (retain x) h (get_or h p 0 + 1) B
        (record { outs = omega (arith, f.outs); switches = f.switches; rises = f.rises }) (omega arith)

    pub deny_booked : 0 < moving_of (place_at ps (b * 8 + p)) → Booked (changed deny ps (b * 8 + p)) (set h p (get_or h p 0 + 1)) n
    deny_booked some =
        let f = B.room.each (b * 8 + p) in
        booked_set ps B.room n b p lb B.few lp (deny (place_at ps (b * 8 + p))) h (get_or h p 0 + 1) B
        (record { outs = f.outs; switches = omega (arith, f.switches); rises = f.rises }) (omega arith)

    pub cancel_booked : 0 < rise_of (place_at ps (b * 8 + p)) → Booked (changed cancel ps (b * 8 + p)) (set h p (get_or h p 0 - 1)) n
    cancel_booked some =
        let f = B.room.each (b * 8 + p) in
        let g = held_here in
        booked_set ps B.room n b p lb B.few lp (cancel (place_at ps (b * 8 + p))) h (get_or h p 0 - 1) B
        (record { outs = f.outs; switches = omega (arith, f.switches); rises = omega (arith, f.rises) }) (omega (arith, f.rises))
