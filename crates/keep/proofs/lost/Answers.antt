use mathlib.Core.Path.{◌≡◌, sym, subst}
use native.Mathlib.Omega.{arith}
use borrow.Author.Tests.{le-ltb}
use Rattle.keep.specs.Search.{noted, highest_up_to}
use Rattle.keep.proofs.Searches.{rank_at, loss_is}
use Rattle.keep.proofs.lost.Goals as goal

pub returns-then-best-eq0 : goal.returns-then-best-eq0
returns-then-best-eq0 c =
    let a = c.args in
    let v = c.loop-p in
    let e : v.p ≡ a.products = omega (arith, c.loop-p-test.false) in
    let picked : v.best ≡ noted (rank_at a.ranks.now a.b) (highest_up_to a.ranks.now a.b a.products) =
    subst (λ p. v.best ≡ noted (rank_at a.ranks.now a.b) (highest_up_to a.ranks.now a.b p)) e v.invariant in
    rw (le-ltb _ _ c.if-turn-lt-SWITCH.false)
    (sym ((loss_is a.ranks.now a.b a.products _ picked).0 c.if-best-eq0.true))
