-- Whose turn it is: the lowest turn, and of equals the earliest. Assumes nothing.
use Rattle.std.specs.Prelude.{Bool, cond, ℕ, zero, suc, ltb}
use Rattle.table.specs.declared.Next.{Next}

abbrev pub next : ℕ → ℕ → Next
next i x = record { at = i; turn = x }

abbrev pub nobody : Next
nobody = next 0 4294967297

-- the bidder i-th in the draw, with its turn: taken where it is the lower
abbrev pub sooner : Next → ℕ → ℕ → Next
sooner s i x = cond (ltb x s.turn) (next i x) s

module _ (turn : ℕ → ℕ) where
  abbrev pub soonest : ℕ → Next
  soonest zero = nobody
  soonest (suc n) = sooner (soonest n) n (turn n)

-- two kinds of candidates, of which those that come first have the turn x, and the others y
abbrev pub turn_by : Bool → ℕ → Bool → ℕ → ℕ
turn_by first x second y = cond first x (cond second y 4294967297)
