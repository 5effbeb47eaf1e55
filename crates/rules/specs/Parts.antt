-- The parts of the state, and the state with one part anew. Assumes nothing.
use Rattle.std.specs.Prelude.{List, ℕ, get_or, replicate}
use Rattle.rules.specs.declared.Tranches.{Tranches}
use Rattle.rules.specs.declared.Line.{Line}
use Rattle.rules.specs.declared.Record.{Record}
use Rattle.rules.specs.declared.Terms.{Terms}
use Rattle.rules.specs.declared.Lane.{Lane}
use Rattle.rules.specs.declared.Seat.{Seat}
use Rattle.rules.specs.declared.Row.{Row}
use Rattle.rules.specs.declared.Decrements.{Decrements}
use Rattle.rules.specs.declared.Cards.{Cards}
use Rattle.rules.specs.declared.Auction.{Auction}
use Rattle.rules.specs.Count.{list_of}
use Rattle.rules.specs.Units.{tranches, points}
use Rattle.rules.specs.Card.{no_line}

-- the n-th of a list of tranches
abbrev pub tranches_at : List Tranches → ℕ → ℕ
tranches_at xs n = (get_or xs n (tranches 0)).0

-- ---- a product's lane

abbrev pub lane : ℕ → ℕ → ℕ → ℕ → ℕ → ℕ → Lane
lane target cap start price before mark =
    record { target = tranches target; cap = tranches cap; start = start; price = price; before = before; mark = mark }

abbrev pub no_lane : Lane
no_lane = lane 0 0 0 0 0 0

abbrev pub lane_at : Auction → ℕ → Lane
lane_at a p = get_or a.lanes p no_lane

-- the lane at these prices
abbrev pub priced : Lane → ℕ → ℕ → Lane
priced l price before = lane l.target.0 l.cap.0 l.start price before l.mark

-- the lane with this mark
abbrev pub marked : Lane → ℕ → Lane
marked l mark = lane l.target.0 l.cap.0 l.start l.price l.before mark

-- the lane with this target and cap
abbrev pub limited : Lane → ℕ → ℕ → Lane
limited l target cap = lane target cap l.start l.price l.before l.mark

-- ---- a bidder's seat

abbrev pub seat : ℕ → ℕ → Seat
seat initial free = record { initial = tranches initial; free = tranches free }

abbrev pub no_seat : Seat
no_seat = seat 0 0

abbrev pub seat_at : Auction → ℕ → Seat
seat_at a b = get_or a.seats b no_seat

-- the seat with this free eligibility
abbrev pub reseated : Seat → ℕ → Seat
reseated s free = seat s.initial.0 free

-- ---- a decrement table

abbrev pub row : ℕ → ℕ → Row
row x d = record { percent = x; decrement = points d }

abbrev pub no_row : Row
no_row = row 0 0

abbrev pub table : ℕ → List Row → Decrements
table rows row = record { rows = rows; row = row }

-- ---- the cards

abbrev pub cards : ℕ → List Line → Cards
cards filed lines = record { filed = filed; lines = lines }

abbrev pub no_cards : Cards
no_cards = cards 0 (replicate 256 no_line)

-- ---- the auction, and one part of it anew

abbrev pub auction : ℕ → ℕ → Terms → List Lane → List Seat → Decrements → List Record → Cards → Auction
auction phase round terms lanes seats decrements records cards = record {
  phase = phase;
  round = round;
  terms = terms;
  lanes = lanes;
  seats = seats;
  decrements = decrements;
  records = records;
  cards = cards;
}

module _ (a : Auction) where
  abbrev pub with_phase : ℕ → Auction
  with_phase x = auction x a.round a.terms a.lanes a.seats a.decrements a.records a.cards

  abbrev pub with_round : ℕ → Auction
  with_round x = auction a.phase x a.terms a.lanes a.seats a.decrements a.records a.cards

  abbrev pub with_lanes : List Lane → Auction
  with_lanes ls = auction a.phase a.round a.terms ls a.seats a.decrements a.records a.cards

  abbrev pub with_seats : List Seat → Auction
  with_seats ss = auction a.phase a.round a.terms a.lanes ss a.decrements a.records a.cards

  abbrev pub with_records : List Record → Auction
  with_records rs = auction a.phase a.round a.terms a.lanes a.seats a.decrements rs a.cards

  abbrev pub with_cards : Cards → Auction
  with_cards cs = auction a.phase a.round a.terms a.lanes a.seats a.decrements a.records cs

  -- every product at the prices x and y
  abbrev pub with_prices : (ℕ → ℕ) → (ℕ → ℕ) → Auction
  with_prices x y = with_lanes (list_of (λ p. priced (lane_at a p) (x p) (y p)) 8)

  -- every product with the mark m
  abbrev pub with_marks : (ℕ → ℕ) → Auction
  with_marks m = with_lanes (list_of (λ p. marked (lane_at a p) (m p)) 8)

  -- no product with one
  abbrev pub unmarked : Auction
  unmarked = with_marks (λ p. 0)

  -- every product with the target x and the cap y
  abbrev pub with_limits : (ℕ → ℕ) → (ℕ → ℕ) → Auction
  with_limits x y = with_lanes (list_of (λ p. limited (lane_at a p) (x p) (y p)) 8)

  -- every bidder with the free eligibility f
  abbrev pub with_free : (ℕ → ℕ) → Auction
  with_free f = with_seats (list_of (λ b. reseated (seat_at a b) (f b)) 32)
