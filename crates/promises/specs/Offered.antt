-- What bidder b has on offer of product p, by its cards and under document 01's default and deeming rules: worked out from the rounds that
-- were calculated, each by its cards and its draw, and not from what they led to. Assumes nothing.
use Rattle.std.specs.Prelude.{Bool, cond, List, [], ◌∷◌, ℕ, ◌+◌, ◌*◌, ◌-◌, min, ltb}
use Rattle.rules.specs.declared.Lots.{Lots}
use Rattle.rules.specs.Count.{sum_up_to}
use Rattle.rules.specs.Lots.{no_lots}
use Rattle.rules.specs.Held.{going_in, denied_in, ticked, free_of}
use Rattle.rules.specs.Bid.{bid_in, withdrawn_in as withdrawn_on, record_of, bid_on, price_at}
use Rattle.rules.specs.Accept.{place_at, rise_of}
use Rattle.rules.specs.Round.{after_step2}
use Rattle.promises.specs.Runs.{Round}

-- Each tranche on offer is counted in one of three parts, and only there: those bid or deemed bid in the last round, at its going
-- price; and of those that were bid and are bid no longer, the ones withdrawn, in the four lots of that withdrawal, each lot at its exit
-- price, and the others, at the price at which they were last bid. `ever` counts those ever offered, each in the round in which it was newly
-- bid.
pub record OnOffer : Type 0 where
  pub bid : ℕ
  pub price : ℕ
  pub switched : ℕ
  pub before : ℕ
  pub exits : Lots
  pub ever : ℕ

abbrev pub no_offer : OnOffer
no_offer = record { bid = 0; price = 0; switched = 0; before = 0; exits = no_lots; ever = 0 }

module _ (r : Round) (b p : ℕ) where
  -- the tranches of its card, or of its default bid; those that it withdraws, and their lots
  abbrev pub tranches_bid : ℕ
  tranches_bid = bid_in (bid_on r.auction b p)

  abbrev pub tranches_withdrawn : ℕ
  tranches_withdrawn = withdrawn_on (bid_on r.auction b p)

  abbrev pub lots_withdrawn : Lots
  lots_withdrawn = (bid_on r.auction b p).withdrawn

  -- an increase left after step 2
  abbrev pub increase_left : Bool
  increase_left = ltb 0 (rise_of (place_at (after_step2 r.auction r.draw).places (b * 8 + p)))

  -- "On a product that didn't tick, a bidder with denied switches there and an increase left is deemed to bid them all at the going price":
  -- the denied switches, of those switched, are bid again
  abbrev pub deemed_bid : Bool → Bool → OnOffer → ℕ
  deemed_bid tick left o = cond tick 0 (cond left (min (denied_in (record_of r.auction b p)) o.switched) 0)

  -- The round adds what it bids. On a product that ticked, what was bid and is bid no longer is withdrawn or switched, last bid at the going
  -- price of the round before; on one that didn't, nothing can be reduced, and what was withdrawn or switched stays so unless deemed bid.
  abbrev pub offering_by : Bool → Bool → OnOffer → OnOffer
  offering_by tick left o = record {
    bid = tranches_bid + deemed_bid tick left o;
    price = price_at r.auction p;
    switched = cond tick (o.bid - tranches_bid - tranches_withdrawn) (cond left 0 o.switched);
    before = cond tick o.price o.before;
    exits = cond tick lots_withdrawn o.exits;
    ever = o.ever + (tranches_bid - o.bid);
  }

  abbrev pub offering : OnOffer → OnOffer
  offering = offering_by (ticked r.auction p) increase_left

-- what is on offer after the rounds
abbrev pub offered_from : OnOffer → List Round → ℕ → ℕ → OnOffer
offered_from o [] b p = o
offered_from o (r ∷ rs) b p = offered_from (offering r b p o) rs b p

abbrev pub on_offer : List Round → ℕ → ℕ → OnOffer
on_offer rs b p = offered_from no_offer rs b p

-- ---- over all products, in all rounds

abbrev pub in_rounds : (Round → ℕ) → List Round → ℕ
in_rounds f [] = 0
in_rounds f (r ∷ rs) = f r + in_rounds f rs

-- what bidder b may bid in a round, its g and f, and does not: withdrawn, or free and not used
abbrev pub given_up : ℕ → Round → ℕ
given_up b r =
    sum_up_to (λ p. going_in (record_of r.auction b p)) r.auction.terms.products + free_of r.auction b
    - sum_up_to (tranches_bid r b) r.auction.terms.products

-- what it withdraws
abbrev pub withdrawn_in : ℕ → Round → ℕ
withdrawn_in b r = sum_up_to (tranches_withdrawn r b) r.auction.terms.products
