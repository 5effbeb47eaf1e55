-- Lent bytes that are a book. Assumes nothing.
use Rattle.std.specs.Prelude.{◌≡◌, List, ℕ, ◌≤◌, length}
use Rattle.rules.specs.declared.Auction.{Auction}
use Rattle.rules.specs.Layout.{state_length, loaded}

-- bytes of the state's length, whatever they say
abbrev pub Long : List ℕ → Type 0
Long s = length s ≡ state_length

-- counts in use that the sections have room for
pub record Counts (a : Auction) : Type 0 where
  pub products : a.terms.products ≤ 8
  pub bidders : a.terms.bidders ≤ 32
  pub rows : a.decrements.rows ≤ 8

pub record Lent (s : List ℕ) : Type 0 where
  pub long : Long s
  pub counts : Counts (loaded s)
