-- open, round 1
use mathlib.Core.Bool.{◌&&◌}
use mathlib.Core.Path.{◌∙◌, ap, ap₂}
use borrow.Author.Tests.{ne_eqb}
use lib.Dec.{eqb, ltb}
use Rattle.held.proofs.Found.{implied}
use Rattle.legal.proofs.phases.phase_stands.Goals as goal

pub returns-then-round-eq1 : goal.returns-then-round-eq1
returns-then-round-eq1 c =
    let round = c in
    rw (← round.phase-phase.ensures, round.if-phase-eq-OPEN.true, ← round.round-round.ensures, c.if-round-eq1.true)
    c.as_opened.ensures

-- open, a later round

pub returns-then-phase-eq-OPEN : goal.returns-then-phase-eq-OPEN
returns-then-phase-eq-OPEN c =
    let round = c in
    rw (← round.phase-phase.ensures, round.if-phase-eq-OPEN.true, ne_eqb _ _ (λ e. c.if-round-eq1.false (round.round-round.ensures ∙ e)))
    (ap₂ ◌&&◌ (ap (ltb 0) c.excess_by.ensures.0) (implied (ap (λ x. eqb x 2) round.round-round.ensures) c.nothing_kept.ensures))

-- closed

pub returns-then-phase-eq-CLOSED : goal.returns-then-phase-eq-CLOSED
returns-then-phase-eq-CLOSED c =
    let filed = c in
    rw (← filed.phase-phase.ensures, c.if-phase-eq-CLOSED.true, filed.filed-none.ensures, c.excess_by-excess.ensures.0)

-- stopped, or no phase

pub returns : goal.returns
returns c =
    let filed = c in
    rw (
      ← filed.phase-phase.ensures,
      ne_eqb _ _ filed.if-phase-eq-OPEN.false,
      ne_eqb _ _ c.if-phase-eq-CLOSED.false,
      filed.filed-none.ensures,
      c.excess_by-excess.ensures.0,
      c.stops_by.ensures,
    )
