use mathlib.Core.Path.{ap, refl}
use Prim.Native.Nat.{◌/◌}
use native.Mathlib.Omega.{arith}
use borrow.Author.Tests.{eq-eqb, ne_eqb, le-leb, lt-leb}
use Rattle.std.specs.Prelude.{Ok}
use Rattle.rules.specs.Calls.{suggested_call}
use Rattle.cutback.proofs.suggested_volume.Goals as goal

pub returns-then-ratio-eq0 : goal.returns-then-ratio-eq0
unfolding suggested_call
returns-then-ratio-eq0 c = rw (eq-eqb c.args.ratio 0 (omega arith)) refl

pub returns-then-bid-gt-MOST_BID : goal.returns-then-bid-gt-MOST_BID
unfolding suggested_call
returns-then-bid-gt-MOST_BID c =
    let a = c.args in
    rw (ne_eqb a.ratio 0 (omega arith), lt-leb a.bid 51200 (omega arith)) refl

pub returns : goal.returns
unfolding suggested_call
returns c =
    let a = c.args in
    rw (ne_eqb a.ratio 0 (omega arith), le-leb a.bid 51200 (omega arith)) (ap (λ n. Ok (n / a.ratio)) (omega arith))
