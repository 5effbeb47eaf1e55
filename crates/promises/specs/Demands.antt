-- What demands 1 and 3 say of settings, closing bids and awards. Assumes nothing.
use Rattle.std.specs.Prelude.{◌≡◌, true, List, [], ◌∷◌, ◌++◌, ℕ, ◌+◌, ◌≤◌, ◌<◌}
use Rattle.rules.specs.Price.{Override}
use Rattle.rules.specs.declared.Lot.{Lot}
use Rattle.rules.specs.declared.Terms.{Terms}
use Rattle.rules.specs.declared.Setup.{Setup}
use Rattle.rules.specs.Count.{sum_up_to}
use Rattle.rules.specs.Settings.{target_of, cap_of, start_of, initial_of}
use Rattle.rules.specs.Lots.{count_of, lot_at, total}
use Rattle.rules.specs.Held.{going_in, denied_in, retained_in}
use Rattle.rules.specs.Bid.{bid_in, record_of, bid_on}
use Rattle.rules.specs.Layout.{loaded}
use Rattle.rules.specs.Legal.{is_open}
use Rattle.rules.specs.Uses.{Call, after}
use Rattle.promises.specs.Runs.{run, Round, round_of}
use Rattle.promises.specs.Offered.{on_offer, in_rounds, given_up, withdrawn_in}
use Rattle.promises.specs.Awards.{Closed, award_on, paid_for}

-- the settings u are t but for targets and caps, of which none is larger
pub record KeptBut (t u : Setup) : Type 0 where
  pub terms : u.terms ≡ t.terms
  pub eligibility : u.eligibility ≡ t.eligibility
  pub decrements : u.decrements ≡ t.decrements
  pub start : (p : ℕ) → p < 8 → start_of u p ≡ start_of t p
  pub target : (p : ℕ) → p < t.terms.products → target_of u p ≤ target_of t p
  pub cap : (p : ℕ) → p < t.terms.products → cap_of u p ≤ cap_of t p

-- the calls split at the calculation that closed the auction; a bidder's closing bid, its card or default bid of that round, asked no
-- more in total than it is awarded
pub record ClosingBid (s : List ℕ) (t : Terms) (cs : List Call) : Type 0 where
  pub before : List Call
  pub call : Call
  pub rest : List Call
  pub split : cs ≡ before ++ (call ∷ rest)
  pub bidding : is_open (loaded (run s before)) ≡ true
  -- it is a calculation, by either engine, and not refused
  pub draw : List ℕ
  pub overrides : List Override
  pub accepted : round_of (run s before) call ≡ record { auction = loaded (run s before); draw = draw; overrides = overrides } ∷ []
  pub closing : Closed (after (run s before) call)
  pub asked : (b : ℕ) → b < t.bidders
      → sum_up_to (λ p. bid_in (bid_on (loaded (run s before)) b p)) t.products ≤ sum_up_to (λ p. award_on (run s cs) b p) t.products

-- Document 02, request 2: the tranches retained in one of a record's four lots, r, and the lot at the same place of the card or default bid that
-- withdrew them, x: there are no more of them than x has, they are at x's own price, and that is no more than the price paid
pub record LotOffered (x r : Lot) (paid : ℕ) : Type 0 where
  pub few : count_of r ≤ count_of x
  pub own_price : 0 < count_of r → r.exit ≡ x.exit
  pub exit_paid : 0 < count_of r → x.exit ≤ paid

-- what bidder b is awarded of product p in the state s: each of its g, d and r has its own tranche that the bidder had offered in the rounds
-- rs, at no more than the price paid
pub record AwardOffered (rs : List Round) (s : List ℕ) (b p : ℕ) : Type 0 where
  pub parts : award_on s b p
      ≡ going_in (record_of (loaded s) b p) + denied_in (record_of (loaded s) b p) + retained_in (record_of (loaded s) b p)
  -- the g are bid in the last round; the d and r were bid and are bid no longer, and the r of these were withdrawn, the d not: of the four lots
  -- in which r is retained, each is of the lot at the same place in which they were withdrawn
  pub going : going_in (record_of (loaded s) b p) ≤ (on_offer rs b p).bid
  pub denied : denied_in (record_of (loaded s) b p) ≤ (on_offer rs b p).switched
  pub retained : (i : ℕ) → i < 4
      → LotOffered (lot_at (on_offer rs b p).exits i) (lot_at (record_of (loaded s) b p).retained i) (paid_for s p)
  -- none of these tranches is counted twice
  pub own : (on_offer rs b p).bid + (on_offer rs b p).switched + total (on_offer rs b p).exits ≤ (on_offer rs b p).ever
  -- "at no more than the price it is paid", as of each retained lot above
  pub going_paid : 0 < going_in (record_of (loaded s) b p) → (on_offer rs b p).price ≤ paid_for s p
  pub denied_paid : 0 < denied_in (record_of (loaded s) b p) → (on_offer rs b p).before ≤ paid_for s p

-- over all products of the settings t: each tranche of bidder b's initial eligibility is awarded at the going price or as a denied switch, on one
-- product, or was given up, in one of the rounds rs; those awarded as retained withdrawals are of the withdrawn, which are of those given up
pub record AwardedOnce (t : Setup) (rs : List Round) (s : List ℕ) (b : ℕ) : Type 0 where
  pub whole : sum_up_to (λ p. going_in (record_of (loaded s) b p) + denied_in (record_of (loaded s) b p)) t.terms.products + in_rounds (given_up b) rs
      ≡ initial_of t b
  pub retained : sum_up_to (λ p. retained_in (record_of (loaded s) b p)) t.terms.products ≤ in_rounds (withdrawn_in b) rs
  pub withdrawn : in_rounds (withdrawn_in b) rs ≤ in_rounds (given_up b) rs
