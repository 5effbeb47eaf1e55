-- What a standing auction and an accepted bid are, as facts that laws can use. Assumes nothing.
use Rattle.std.specs.Prelude.{◌≡◌, Bool, true, false, ℕ, ◌+◌, ◌-◌, ◌/◌, ◌%◌, ◌≤◌, ◌<◌, length}
use Rattle.rules.specs.declared.Line.{Line}
use Rattle.rules.specs.declared.Record.{Record}
use Rattle.rules.specs.declared.Setup.{Setup}
use Rattle.rules.specs.declared.Auction.{Auction}
use Rattle.rules.specs.Count.{sum_up_to}
use Rattle.rules.specs.Settings.{setup, within_limits, target_of, cap_of, start_of, initial_of, percent_of, decrement_of}
use Rattle.rules.specs.Lots.{ExitsFit}
use Rattle.rules.specs.Held.{going_in, denied_in, retained_in, held_in, record_at, held, free_of}
use Rattle.rules.specs.Bid.{bid_in, withdrawn_in, reductions, increases, wrong_priority, record_of, price_at, before_at, mark_at}
use Rattle.rules.specs.Legal.{kept_on, is_open, record_zero, slot_stands, phase_stands}

-- settings within limits
pub record Limits (t : Setup) : Type 0 where
  pub some_products : 1 ≤ t.terms.products
  pub products : t.terms.products ≤ 8
  pub some_bidders : 1 ≤ t.terms.bidders
  pub bidders : t.terms.bidders ≤ 32
  pub some_rows : 1 ≤ t.decrements.rows
  pub rows : t.decrements.rows ≤ 8
  pub unit : t.terms.unit ≤ 1
  pub target : (p : ℕ) → p < t.terms.products → (1 ≤ target_of t p) × (target_of t p ≤ 200)
  pub ranked : (p : ℕ) → 0 < p → p < t.terms.products → target_of t p ≤ target_of t (p - 1)
  pub cap : (p : ℕ) → p < t.terms.products → (1 ≤ cap_of t p) × (cap_of t p ≤ target_of t p)
  pub start : (p : ℕ) → p < t.terms.products → (1 ≤ start_of t p) × (start_of t p ≤ 99999)
  pub no_item : (p : ℕ) → t.terms.products ≤ p → p < 8 → (target_of t p ≡ 0) × (cap_of t p ≡ 0) × (start_of t p ≡ 0)
  pub statewide : (1 ≤ t.terms.statewide.0) × (t.terms.statewide.0 ≤ sum_up_to (target_of t) t.terms.products)
  pub initial : (b : ℕ) → b < t.terms.bidders → (1 ≤ initial_of t b) × (initial_of t b ≤ t.terms.statewide.0)
  pub no_bidder : (b : ℕ) → t.terms.bidders ≤ b → b < 32 → initial_of t b ≡ 0
  pub first_percent : percent_of t.decrements 0 ≡ 0
  pub rising : (i : ℕ) → 0 < i → i < t.decrements.rows → percent_of t.decrements (i - 1) < percent_of t.decrements i
  pub percent : (i : ℕ) → i < 8 → percent_of t.decrements i ≤ 60000
  pub decrement : (i : ℕ) → i < t.decrements.rows → (50 ≤ decrement_of t.decrements i) × (decrement_of t.decrements i ≤ 500)
  pub no_row : (i : ℕ) → t.decrements.rows ≤ i → i < 8 → (percent_of t.decrements i ≡ 0) × (decrement_of t.decrements i ≡ 0)

-- the lists of a state are as long as its arrays
pub record Long (a : Auction) : Type 0 where
  pub lanes : length a.lanes ≡ 8
  pub seats : length a.seats ≡ 32
  pub row : length a.decrements.row ≡ 8
  pub records : length a.records ≡ 256
  pub lines : length a.cards.lines ≡ 256

-- "Standing means", clause by clause
pub record Stands (a : Auction) : Type 0 where
  pub within : within_limits (setup a) ≡ true
  pub limits : Limits (setup a)
  pub some_round : 1 ≤ a.round
  pub round : a.round ≤ 4095
  pub prices : (p : ℕ) → p < a.terms.products
      → (1 ≤ price_at a p) × (price_at a p ≤ before_at a p) × (before_at a p ≤ start_of (setup a) p)
  pub fell : (p : ℕ) → p < a.terms.products → is_open a ≡ true
      → target_of (setup a) p < held a.records a.terms.bidders p → price_at a p < before_at a p
  pub kept : (p : ℕ) → p < a.terms.products → 0 < kept_on a p
      → (price_at a p < before_at a p) × (held a.records a.terms.bidders p ≡ target_of (setup a) p)
  pub no_price : (p : ℕ) → a.terms.products ≤ p → p < 8 → (price_at a p ≡ 0) × (before_at a p ≡ 0)
  pub marks : (p : ℕ) → p < a.terms.products → 0 < mark_at a p
      → (mark_at a p ≡ 1) × (is_open a ≡ true) × (2 ≤ a.round) × (target_of (setup a) p < held a.records a.terms.bidders p)
  pub no_mark : (p : ℕ) → a.terms.products ≤ p → p < 8 → mark_at a p ≡ 0
  pub exits : (b p : ℕ) → b < a.terms.bidders → p < a.terms.products
      → ExitsFit (price_at a p) (before_at a p) (record_of a b p).retained
  pub caps : (b p : ℕ) → b < a.terms.bidders → p < a.terms.products → held_in (record_of a b p) ≤ cap_of (setup a) p
  pub no_bidder : (k : ℕ) → k < 256 → a.terms.bidders ≤ k / 8 → record_zero (record_at a.records k) ≡ true
  pub no_product : (k : ℕ) → k < 256 → a.terms.products ≤ k % 8 → record_zero (record_at a.records k) ≡ true
  pub eligible : (b : ℕ) → b < a.terms.bidders
      → sum_up_to (λ p. held_in (record_of a b p)) a.terms.products + free_of a b ≤ initial_of (setup a) b
  pub no_free : (b : ℕ) → a.terms.bidders ≤ b → b < 32 → free_of a b ≡ 0
  pub slots : (b : ℕ) → b < 32 → slot_stands a b ≡ true
  pub phase : phase_stands a ≡ true

-- a bid of one bidder that passes 8 to 13: its records r, its lines l, its free eligibility f
pub record Accepted (m : ℕ) (tick : ℕ → Bool) (cap price before : ℕ → ℕ) (r : ℕ → Record) (l : ℕ → Line) (f : ℕ) : Type 0 where
  pub caps : (p : ℕ) → p < m → bid_in (l p) + denied_in (r p) + retained_in (r p) ≤ cap p
  pub ticks : (p : ℕ) → p < m → tick p ≡ false → going_in (r p) ≤ bid_in (l p)
  pub eligible : sum_up_to (λ p. bid_in (l p)) m ≤ sum_up_to (λ p. going_in (r p)) m + f
  pub withdrawn : (p : ℕ) → p < m → withdrawn_in (l p) ≤ going_in (r p) - bid_in (l p)
  pub total : sum_up_to (λ p. withdrawn_in (l p)) m + (increases m r l - f) ≡ reductions m r l
  pub exits : (p : ℕ) → p < m → ExitsFit (price p) (before p) (l p).withdrawn
  pub numbered : wrong_priority m r l f ≡ false
