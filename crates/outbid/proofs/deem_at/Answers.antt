use mathlib.Core.Path.{sym, ◌∙◌, ap}
use native.Mathlib.Omega.{arith}
use lib.ListN.{set}
use lib.Seq.{set-get_or}
use Rattle.rules.specs.Accept.{nowhere}
use Rattle.table.specs.Rows.{places_in}
use Rattle.outbid.proofs.deem_at.Goals as goal

pub deem-x-requires : goal.deem-x-requires
deem-x-requires c =
    let f = (c.requires.1.each c.args.k).switches in
    rw c.place_at-l.ensures (omega arith)

pub returns-then-tick-l : goal.returns-then-tick-l
returns-then-tick-l c =
    let l = c.place_at-l.ensures in
    let a = c.args in
    rw (← l, c.if-tick-l.true) (c.put.ensures ∙ ap (set (places_in a.ps.now) a.k) c.deem-x.ensures)

pub returns-else-tick-l : goal.returns-else-tick-l
returns-else-tick-l c =
    let l = c.place_at-l.ensures in
    let a = c.args in
    let ps = places_in a.ps.now in
    rw (← l, c.if-tick-l.false) (sym (ap (set ps a.k) l ∙ set-get_or ps a.k nowhere))
