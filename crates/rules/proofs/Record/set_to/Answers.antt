use mathlib.Core.Path.{◌≡◌, refl}
use Prim.Native.Nat.{min}
use native.Mathlib.Omega.{arith}
use Rattle.rules.specs.Held.{going_in}
use Rattle.rules.proofs.Record.set_to.Goals as goal

pub returns-then-self-cap : goal.returns-then-self-cap
returns-then-self-cap c =
    let a = c.args in
    let e : min (going_in a.self) a.cap.0 ≡ a.cap.0 = omega arith in
    rw e refl

pub returns : goal.returns
returns c =
    let a = c.args in
    let e : min (going_in a.self) a.cap.0 ≡ going_in a.self = omega arith in
    rw e refl
