use mathlib.Core.Path.{refl, sym, ◌∙◌, ap, subst}
use Prim.Native.Nat.{◌<◌}
use lib.ListN.{set}
use Rattle.rules.specs.Accept.{place_at, left_of}
use Rattle.table.specs.Room.{Fits}
use Rattle.keep.specs.Step.{Timed, turn_of, kept_one}
use Rattle.table.specs.Rows.{places_in}
use Rattle.keep.proofs.keep_at.Goals as goal

pub keep_one-one-requires : goal.keep_one-one-requires
keep_one-one-requires c =
    let h = c.requires in
    let e = sym c.place_at-l.ensures in
    (subst Fits e h.fits, subst (λ l. 0 < left_of l) e h.left)

pub returns : goal.returns
returns c =
    let a = c.args in
    let one = c.keep_one-one.ensures ∙ ap kept_one c.place_at-l.ensures in
    let t = c.turn_of.ensures in
    let e = t.turn ∙ ap turn_of one in
    record {
      places = c.put.ensures ∙ ap (set (places_in a.ps.now) a.k) one;
      sums = refl;
      times = ap (set a.turns.now a.k) e;
      timed = subst (λ x. Timed x (kept_one (place_at (places_in a.ps.now) a.k))) e (subst (Timed c.turn_of.result) one t);
    }
