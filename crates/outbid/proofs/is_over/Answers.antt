use Prim.Native.Nat.{◌≤◌}
use native.Mathlib.Omega.{arith}
use Rattle.held.proofs.Signed.{less_back}
use Rattle.outbid.proofs.is_over.Goals as goal

pub returns : goal.returns
returns c =
    let k : c.args.target ≤ 20000000 = omega arith in
    rw (c.is_above-above.ensures, c.standing_of.ensures, less_back _ _ c.requires k)
