-- A box over all its hires: calls and returns, in any order. Assumes nothing.
use Rattle.std.specs.Prelude.{◌≡◌, true, ◌⊎◌, List, [], ℕ, length}
use Rattle.rules.specs.Layout.{all_zero, state_length}
use Rattle.laws.specs.OneCall.{StandsIn}

-- of the right length, and all zero
pub record Issued (s : List ℕ) : Type 0 where
  pub long : length s ≡ state_length
  pub zero : all_zero s ≡ true

abbrev pub IssuedOrStanding : List ℕ → Type 0
IssuedOrStanding s = Issued s ⊎ StandsIn s
