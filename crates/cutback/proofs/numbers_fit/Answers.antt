use native.Mathlib.Omega.{arith}
use borrow.Author.Tests.{lt-ltb, le-ltb}
use Rattle.rules.specs.Layout.{loaded}
use Rattle.rules.specs.Settings.{setup}
use Rattle.rules.specs.Cutback.{given_for}
use Rattle.cutback.proofs.Laws.{limits_are, fits_is}
use Rattle.cutback.proofs.numbers_fit.Goals as goal

pub returns-then-p-products : goal.returns-then-p-products
returns-then-p-products c =
    rw (le-ltb c.args.p (loaded c.args.s.now).terms.products (omega (arith, c.if-p-products.true, c.products.ensures.0)))

pub returns : goal.returns
returns c =
    let a = c.args in
    let t = setup (loaded a.s.now) in
    fits_is t a.targets a.caps a.p c.last_of-last.result (omega arith) c.last_of-last.ensures
    (rw (
      lt-ltb a.p (loaded a.s.now).terms.products (omega (arith, c.if-p-products.false, c.products.ensures.0)),
      c.holds-2.ensures,
      c.cap_limits.ensures,
      c.holds.ensures,
      c.target_limits.ensures,
    )
    (limits_are t (given_for a.targets a.p) (given_for a.caps a.p) c.last_of-last.result a.p))
