use mathlib.Core.Path.{◌≡◌}
use mathlib.Core.List.{List}
use Prim.Native.Nat.{ℕ, ◌<◌}
use native.Mathlib.Omega.{arith}
use Rattle.rules.specs.declared.Place.{Place}
use Rattle.rules.specs.Round.{drawn}
use Rattle.table.specs.declared.Next.{Next}
use Rattle.keep.specs.Search.{next_up_to}
use Rattle.keep.specs.Work.{Keeping}
use Rattle.keep.proofs.Steps.{Step, step_idle, step_drawn, step_keeps, step_at, step_cancels, step_kept}
use Rattle.keep.proofs.keep_next.Goals as goal

-- the turn taken, and the bidder whose it is
abbrev step : {m n : ℕ} {draw : List ℕ} {ps : List Place} {held turns ranks : List ℕ} {p : ℕ}
    → Keeping m n draw ps held turns ranks p → (s : Next) → s ≡ next_up_to turns (drawn draw) p n
    → (s.turn ≡ 4294967297 → ⊥) → (b : ℕ) → b ≡ drawn draw s.at → b < n → Step m n draw ps held turns ranks p
step g s f d b e l = record { given = g; next = s; is_next = f; some = d; b = b; is_drawn = e; bidder = l }

pub returns-then-s-eq-NOTHING : goal.returns-then-s-eq-NOTHING
returns-then-s-eq-NOTHING c = let n = c.next_turn-s in step_idle c.requires n.result n.ensures c.if-s-eq-NOTHING.true

pub bidder_at-b-requires : goal.bidder_at-b-requires
bidder_at-b-requires c =
    let g = c.requires in
    let n = c.next_turn-s in
    (step_drawn g n.result n.ensures c.if-s-eq-NOTHING.false, g.draw)

pub keep_at-requires : goal.keep_at-requires
keep_at-requires c =
    let n = c.next_turn-s in
    let b = c.bidder_at-b in
    step_keeps (step c.requires n.result n.ensures c.if-s-eq-NOTHING.false b.result b.ensures.0 b.ensures.1)

pub overflow_add-b-2 : goal.overflow_add-b-2
overflow_add-b-2 c =
    let n = c.next_turn-s in
    let b = c.bidder_at-b in
    let x = c.lost-x in
    let u = step c.requires n.result n.ensures c.if-s-eq-NOTHING.false b.result b.ensures.0 b.ensures.1 in
    omega (arith, step_at u x.result x.ensures)

pub cancel_at-requires : goal.cancel_at-requires
cancel_at-requires c =
    let n = c.next_turn-s in
    let b = c.bidder_at-b in
    let x = c.lost-x in
    let u = step c.requires n.result n.ensures c.if-s-eq-NOTHING.false b.result b.ensures.0 b.ensures.1 in
    step_cancels u x.result x.ensures _ _ _ c.keep_at.ensures

pub returns : goal.returns
returns c =
    let n = c.next_turn-s in
    let b = c.bidder_at-b in
    let x = c.lost-x in
    let u = step c.requires n.result n.ensures c.if-s-eq-NOTHING.false b.result b.ensures.0 b.ensures.1 in
    step_kept u x.result x.ensures _ _ _ c.keep_at.ensures _ _ _ c.cancel_at.ensures
