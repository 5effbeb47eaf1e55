-- What the lines of a bid come to over the first m products: the sums of "Rules of a bid", and whether each product keeps each rule.
-- Assumes nothing.
use Rattle.std.specs.Prelude.{◌≡◌, Bool, true, cond, List, ℕ, ◌+◌, ◌*◌, ◌≤◌, ◌<◌, length, get_or, leb, eqb}
use Rattle.rules.specs.declared.Auction.{Auction}
use Rattle.rules.specs.declared.Line.{Line}
use Rattle.rules.specs.declared.Record.{Record}
use Rattle.rules.specs.Count.{sum_up_to, all_up_to}
use Rattle.rules.specs.Settings.{setup, cap_of}
use Rattle.rules.specs.Lots.{exits_fit}
use Rattle.rules.specs.Held.{going_in, denied_in, retained_in, ticked}
use Rattle.rules.specs.Bid.{bid_in, withdrawn_in, one_if, reduction, increase, reductions, increases, numbered, record_of, on_product, price_at, before_at}
use Rattle.rules.specs.Layout.{loaded}
use Rattle.book.specs.Lent.{Lent}
use Rattle.held.specs.Ticks.{Ticks}
use Rattle.bids.specs.declared.line.Kept.{Kept}
use Rattle.bids.specs.Lines.{is_increased}
use Rattle.bids.specs.declared.Sums.{Sums}

-- a lent book, the products of it that ticked, and a bidder
pub record Judging (s marks : List ℕ) (b : ℕ) : Type 0 where
  pub lent : Lent s
  pub bidder : b < 32
  pub ticks : Ticks marks (loaded s)

-- a lent book, a bidder, and how many products it increases
pub record Numbering (s : List ℕ) (b rising : ℕ) : Type 0 where
  pub lent : Lent s
  pub bidder : b < 32
  pub few : rising ≤ 8

-- one product more
abbrev pub summed : Sums → Record → Line → Sums
summed t r l = record {
  going = t.going + going_in r;
  bid = t.bid + bid_in l;
  reduced = t.reduced + reduction r l;
  increased = t.increased + increase r l;
  withdrawn = t.withdrawn + withdrawn_in l;
  rising = t.rising + one_if (is_increased r l);
}

-- no sum is above 65,535 a product, or four times that of its lots
pub record Small (m : ℕ) (t : Sums) : Type 0 where
  pub going : t.going ≤ 65535 * m
  pub bid : t.bid ≤ 65535 * m
  pub reduced : t.reduced ≤ 65535 * m
  pub increased : t.increased ≤ 65535 * m
  pub withdrawn : t.withdrawn ≤ 262140 * m
  pub rising : t.rising ≤ m

pub record Summed (m : ℕ) (r : ℕ → Record) (l : ℕ → Line) (t : Sums) : Type 0 where
  pub going : t.going ≡ sum_up_to (λ p. going_in (r p)) m
  pub bid : t.bid ≡ sum_up_to (λ p. bid_in (l p)) m
  pub reduced : t.reduced ≡ reductions m r l
  pub increased : t.increased ≡ increases m r l
  pub withdrawn : t.withdrawn ≡ sum_up_to (λ p. withdrawn_in (l p)) m
  pub rising : t.rising ≡ sum_up_to (λ p. one_if (is_increased (r p) (l p))) m

pub record KeptIn (m : ℕ) (a : Auction) (r : ℕ → Record) (l : ℕ → Line) (t : Kept) : Type 0 where
  pub caps : t.caps ≡ all_up_to (λ p. leb (bid_in (l p) + denied_in (r p) + retained_in (r p)) (cap_of (setup a) p)) m
  pub ticks : t.ticks ≡ all_up_to (λ p. cond (ticked a p) true (eqb (reduction (r p) (l p)) 0)) m
  pub leaves : t.leaves ≡ all_up_to (λ p. leb (withdrawn_in (l p)) (reduction (r p) (l p))) m
  pub exits : t.exits ≡ all_up_to (λ p. exits_fit (price_at a p) (before_at a p) (l p).withdrawn) m
  pub others : t.others ≡ all_up_to (λ p. cond (is_increased (r p) (l p)) true (eqb (l p).priority 0)) m
  pub plain : t.plain ≡ all_up_to (λ p. eqb (l p).priority 0) m

pub record Tallied (m : ℕ) (a : Auction) (b : ℕ) (ls : List Line) (t : Sums) (k : Kept) : Type 0 where
  pub sums : Summed m (record_of a b) (on_product ls) t
  pub small : Small m t
  pub kept : KeptIn m a (record_of a b) (on_product ls) k

-- how many of the first m products are increased and numbered 1 to 8
pub record Numbers (m : ℕ) (r : ℕ → Record) (l : ℕ → Line) (counts : List ℕ) : Type 0 where
  pub long : length counts ≡ 9
  pub few : (k : ℕ) → k < 9 → get_or counts k 0 ≤ m
  pub each : (k : ℕ) → k < 8 → get_or counts (k + 1) 0 ≡ numbered m r l (k + 1)

abbrev pub once_each : Auction → ℕ → List Line → ℕ → Bool
once_each a b ls n = all_up_to (λ k. eqb (numbered a.terms.products (record_of a b) (on_product ls) (k + 1)) 1) n
