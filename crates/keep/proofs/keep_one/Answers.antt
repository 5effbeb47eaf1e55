use native.Mathlib.Omega.{arith}
use borrow.Author.Tests.{lt-ltb, le-ltb}
use Rattle.rules.specs.Accept.{leaving_of}
use Rattle.keep.proofs.keep_one.Goals as goal

pub returns-then-total-gt0 : goal.returns-then-total-gt0
returns-then-total-gt0 c =
    let n = c.total.ensures.0 in
    rw (lt-ltb 0 (leaving_of c.args.l) (omega (arith, c.if-total-gt0.true))) c.retain.ensures

pub returns : goal.returns
returns c =
    let n = c.total.ensures.0 in
    rw (le-ltb 0 (leaving_of c.args.l) (omega (arith, c.if-total-gt0.false))) c.keep.ensures
