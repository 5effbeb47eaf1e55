use mathlib.Core.Path.{ap}
use native.Mathlib.Omega.{arith}
use Rattle.rules.specs.Held.{held_in}
use Rattle.rules.specs.Layout.{lots_read}
use Rattle.book.proofs.Loaded.{record_at_lem}
use Rattle.book.proofs.held.Goals as goal

pub returns : goal.returns
unfolding lots_read
returns c =
    let d = c in
    omega (arith, ap held_in (record_at_lem d.args.s.now d.args.k d.requires.1))
