-- What the state alone says of a call. Assumes nothing.
use Rattle.std.specs.Prelude.{List, ℕ}
use Rattle.rules.specs.Calls.{of_state}

-- 1, 2, 3 where the state is issued, 0 where it stands
abbrev pub state_number : List ℕ → ℕ
state_number s = of_state s 3 (λ a. 0)
