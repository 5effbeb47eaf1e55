use Rattle.rules.specs.Legal.{stands}
use Rattle.rules.proofs.Tests.{no, yes}
use Rattle.legal.proofs.Limits.{lent_is, limits_are}
use Rattle.legal.proofs.stands.Goals as goal

pub returns-then-not-within_limits : goal.returns-then-not-within_limits
unfolding stands
returns-then-not-within_limits c = rw (no (limits_are c.args.s.now c.within_limits.ensures c.setup.ensures) c.if-not-within_limits.true)

pub body_stands-requires : goal.body_stands-requires
body_stands-requires c =
    let d = c in
    let g = d in
    lent_is g.args.s.now g.requires
    (yes (limits_are g.args.s.now d.within_limits.ensures d.setup.ensures) d.if-not-within_limits.false)

pub returns : goal.returns
unfolding stands
returns c =
    let d = c in
    let s = d.args.s.now in
    rw (
      c.body_stands.ensures,
      c.round-round.ensures,
      yes (limits_are s d.within_limits.ensures d.setup.ensures) d.if-not-within_limits.false,
    )
