use mathlib.Core.Path.{◌≡◌}
use native.Mathlib.Numerals.{add-one}
use native.Mathlib.Omega.{arith}
use borrow.Author.Rules.{rules}
use Rattle.rules.specs.Card.{put_lines}
use Rattle.card.proofs.put_lines.Goals as goal

pub loop-i-init : goal.loop-i-init
unfolding put_lines
loop-i-init c = search rules

pub loop-i-preserved : goal.loop-i-preserved
unfolding put_lines
loop-i-preserved c = (search rules, rw add-one (cc), search rules)

pub returns : goal.returns
returns c =
    let e : c.loop-i.i ≡ c.args.products = omega arith in
    cc
