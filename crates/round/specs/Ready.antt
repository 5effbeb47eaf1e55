-- What a round asks of the lent state and of the draw, and what it does. Assumes nothing.
use Rattle.std.specs.Prelude.{◌≡◌, true, List, ℕ, ◌≤◌, ◌<◌, length}
use Rattle.rules.specs.declared.Auction.{Auction}
use Rattle.rules.specs.declared.Place.{Place}
use Rattle.rules.specs.declared.Calculated.{Calculated}
use Rattle.rules.specs.declared.Calculation.{Calculation}
use Rattle.rules.specs.Answers.{bids_open}
use Rattle.rules.specs.Parts.{with_phase, with_round, with_prices, with_marks}
use Rattle.rules.specs.Settings.{setup, target_of}
use Rattle.rules.specs.Bid.{price_at, before_at}
use Rattle.rules.specs.Legal.{is_open}
use Rattle.rules.specs.Stands.{Stands}
use Rattle.rules.specs.Round.{draw_fits, order_fits}
use Rattle.rules.specs.Layout.{loaded, stored}
use Rattle.book.specs.Lent.{Long, Lent}
use Rattle.held.specs.Ticks.{Ticks}
use Rattle.table.specs.Room.{Room}
use Rattle.prices.specs.declared.Lanes.{Lanes}
use Rattle.prices.specs.Outlook.{Listed}

-- the targets and prices of a
abbrev pub LanesOf : Lanes → Auction → Type 0
LanesOf l a = Listed l (target_of (setup a)) (price_at a) (before_at a)

-- the round opens at the prices x and y, with the marks m
abbrev pub opens_with : Auction → ℕ → (ℕ → ℕ) → (ℕ → ℕ) → (ℕ → ℕ) → Auction
opens_with a round x y m = with_marks (with_prices (with_round (with_phase a bids_open) round) x y) m

-- the state whose bids are accepted, its ticks, and the table for them
pub record Accepting (s marks : List ℕ) (ps : List (List ℕ)) : Type 0 where
  pub long : Long s
  pub ticks : Ticks marks (loaded s)
  pub places : length ps ≡ 256

-- the state before the round is written, and its lanes
pub record Settling (s : List ℕ) (l : Lanes) : Type 0 where
  pub lent : Lent s
  pub round : (loaded s).round ≤ 4095
  pub lanes : LanesOf l (loaded s)

-- a standing state with bids open, and a draw order of its bidders
pub record Ready (s order : List ℕ) : Type 0 where
  pub long : Long s
  pub stands : Stands (loaded s)
  pub bits : (loaded s).cards.filed < 4294967296
  pub bidding : is_open (loaded s) ≡ true
  pub draw : draw_fits (loaded s).terms.bidders order ≡ true

-- the same with an order of its products
pub record ReadyFor (s draw order : List ℕ) : Type 0 where
  pub round : Ready s draw
  pub ordered : order_fits (loaded s).terms.products order ≡ true

-- the state, its ticks and lanes, and the table after step 2
pub record Finishing (s draw marks : List ℕ) (l : Lanes) (ps : List Place) : Type 0 where
  pub round : Ready s draw
  pub ticks : Ticks marks (loaded s)
  pub lanes : LanesOf l (loaded s)
  pub room : Room ps

-- what a calculation answers, and the bytes after it
pub record Tallies (c : Calculated) (r : Calculation) (z : List ℕ) : Type 0 where
  pub kept : r.kept ≡ c.kept
  pub outbid : r.outbid ≡ c.outbid
  pub bytes : z ≡ stored c.auction
