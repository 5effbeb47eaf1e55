use mathlib.Core.Path.{◌∙◌, ap}
use Rattle.rules.specs.Layout.{loaded, stored}
use Rattle.cutback.proofs.Laws.{cuttable, ends, goes_on_lem}
use Rattle.cutback.proofs.cut_back.Goals as goal

pub freed-free-requires : goal.freed-free-requires
freed-free-requires c = cuttable _ _ _ c.requires

pub returns-then-stops : goal.returns-then-stops
returns-then-stops c =
    let a = c.args in
    let limits = c.requires.stands.limits in
    c.prices.ensures _ (c.phase.ensures _ c.reduce.ensures)
    ∙ ap stored (ends (loaded a.s.now) a.targets a.caps _ c.set_to_caps.ensures c.held_all-held.result c.lanes_of-lanes.result
    limits.bidders c.bidders.result c.bidders.ensures.0 c.held_all-held.ensures c.lanes_of-lanes.ensures.0
    c.foresee-next.ensures limits.products c.freed-free.result c.freed-free.ensures c.lanes_of-lanes.ensures.1 c.if-stops.true)

pub returns : goal.returns
returns c =
    let a = c.args in
    let limits = c.requires.stands.limits in
    c.prices-2.ensures _ (c.phase-2.ensures _ c.reduce.ensures)
    ∙ ap stored (goes_on_lem (loaded a.s.now) a.targets a.caps _ c.set_to_caps.ensures c.held_all-held.result c.lanes_of-lanes.result
    limits.bidders c.bidders.result c.bidders.ensures.0 c.held_all-held.ensures c.lanes_of-lanes.ensures.0
    c.foresee-next.ensures limits.products c.freed-free.result c.freed-free.ensures c.lanes_of-lanes.ensures.1 c.if-stops.false)
