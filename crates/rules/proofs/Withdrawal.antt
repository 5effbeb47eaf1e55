-- "An outbid withdrawal is gone." Assumes nothing.
use mathlib.Core.Path.{◌≡◌, refl}
use Prim.Native.Nat.{ℕ}
use Rattle.std.specs.Prelude.{Option, None, Some}
use Rattle.rules.specs.declared.Outbid.{Outbid}
use Rattle.rules.specs.Outbid.{outbid_retained}

-- whosever it was, no bidder's free eligibility changes
pub withdrawal_gone : (draw : ℕ → ℕ) (who : Option ℕ) (s : Outbid) (p : ℕ) → (outbid_retained draw who s p).free ≡ s.free
withdrawal_gone draw (Some i) s p = refl
withdrawal_gone draw None s p = refl
