-- What is held and kept of each product, summed once and handed on. Assumes nothing.
use Rattle.std.specs.Prelude.{◌≡◌, List, ℕ, ◌≤◌, ◌<◌, get_or}
use Rattle.rules.specs.declared.Auction.{Auction}
use Rattle.rules.specs.Held.{held}
use Rattle.rules.specs.Legal.{kept_on}
use Rattle.rules.specs.Layout.{loaded}
use Rattle.book.specs.Lent.{Lent}

abbrev pub held_on : Auction → ℕ → ℕ
held_on a p = held a.records a.terms.bidders p

pub record AllHeld (a : Auction) (xs : List ℕ) : Type 0 where
  pub each : (p : ℕ) → p < 8 → get_or xs p 0 ≡ held_on a p
  pub few : (p : ℕ) → p < 8 → get_or xs p 0 ≤ 12582720

abbrev pub AllKept : Auction → List ℕ → Type 0
AllKept a xs = (p : ℕ) → p < 8 → get_or xs p 0 ≡ kept_on a p

-- a lent book, and what is held of each product
pub record Summed (s xs : List ℕ) : Type 0 where
  pub lent : Lent s
  pub held : AllHeld (loaded s) xs

-- and what is kept
pub record Counted (s xs ys : List ℕ) : Type 0 where
  pub summed : Summed s xs
  pub kept : AllKept (loaded s) ys
