-- A byte for each product says whether it ticked. Assumes nothing.
use Rattle.std.specs.Prelude.{◌≡◌, Bool, List, ℕ, ◌<◌, get_or, eqb}
use Rattle.rules.specs.declared.Auction.{Auction}
use Rattle.rules.specs.Held.{ticked}

abbrev pub is_one : List ℕ → ℕ → Bool
is_one s p = eqb (get_or s p 0) 1

abbrev pub Ticks : List ℕ → Auction → Type 0
Ticks ticks a = (p : ℕ) → p < 8 → is_one ticks p ≡ ticked a p
