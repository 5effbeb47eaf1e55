-- What the searches of steps 2 and 4 need of the draw. Assumes nothing.
use Rattle.std.specs.Prelude.{◌≡◌, List, ℕ, ◌≤◌, ◌<◌, length}
use Rattle.rules.specs.Round.{drawn}

-- every number of the draw is a bidder's
pub record Drawn (n : ℕ) (order : List ℕ) : Type 0 where
  pub few : n ≤ 32
  pub long : length order ≡ n
  pub range : (i : ℕ) → i < n → drawn order i < n
