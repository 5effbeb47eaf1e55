-- "Standing means": whether a state may stand, which number 2 asks. (The standing of a product is a number: Held.) Assumes nothing.
use Rattle.std.specs.Prelude.{Bool, true, ◌&&◌, cond, List, ℕ, ◌+◌, ◌/◌, ◌%◌, leb, ltb, eqb}
use Rattle.rules.specs.declared.Line.{Line}
use Rattle.rules.specs.declared.Record.{Record}
use Rattle.rules.specs.declared.Auction.{Auction}
use Rattle.rules.specs.Count.{sum_up_to, all_up_to}
use Rattle.rules.specs.Answers.{bids_open, closed, stopped}
use Rattle.rules.specs.Settings.{between, setup, within_limits, target_of, cap_of, start_of, initial_of}
use Rattle.rules.specs.Lots.{exits_fit, lots_zero}
use Rattle.rules.specs.Card.{line_zero}
use Rattle.rules.specs.Held.{going_in, denied_in, held_in, kept_in, record_at, held, ticked, free_of, excess}
use Rattle.rules.specs.Bid.{record_of, price_at, before_at, mark_at, on_product, judged, has_filed, slot_of}
use Rattle.rules.specs.Round.{stops}

abbrev pub implies : Bool → Bool → Bool
implies t u = cond t u true

abbrev pub is_open : Auction → Bool
is_open a = eqb a.phase bids_open

-- the tranches kept on product p
abbrev pub kept_on : Auction → ℕ → ℕ
kept_on a p = sum_up_to (λ b. kept_in (record_of a b p)) a.terms.bidders

-- document 02, request 1: "a standing state has its mark only on products above target in an open round from 2"
abbrev pub may_have_mark : Auction → ℕ → Bool
may_have_mark a p = is_open a && (leb 2 a.round && ticked a p)

-- a mark is 1
abbrev pub mark_stands : Auction → ℕ → Bool
mark_stands a p = implies (ltb 0 (mark_at a p)) (leb (mark_at a p) 1 && may_have_mark a p)

-- "1 <= p <= q, q at most the starting price"; "q > p where held exceeds target (in the open phase) or a tranche is kept";
-- "kept tranches only where held equals target"; past the products in use 0
abbrev pub product_stands : Auction → ℕ → Bool
product_stands a p =
    cond (ltb p a.terms.products)
    (leb 1 (price_at a p)
    && (leb (price_at a p) (before_at a p)
    && (leb (before_at a p) (start_of (setup a) p)
    && (implies (is_open a && ticked a p) (ltb (price_at a p) (before_at a p))
    && (implies (ltb 0 (kept_on a p))
    (ltb (price_at a p) (before_at a p) && eqb (held a.records a.terms.bidders p) (target_of (setup a) p))
    && mark_stands a p)))))
    (eqb (price_at a p) 0 && (eqb (before_at a p) 0 && eqb (mark_at a p) 0))

abbrev pub record_zero : Record → Bool
record_zero r = eqb (going_in r) 0 && (eqb (denied_in r) 0 && lots_zero r.retained)

-- "retained exits above p, at most q", lot by lot, "ordered as on a card, which standing requires"; "each bidder within product caps"
abbrev pub record_within : ℕ → ℕ → ℕ → Record → Bool
record_within p q cap r = exits_fit p q r.retained && leb (held_in r) cap

-- past the bidders or products in use 0
abbrev pub record_stands : Auction → ℕ → Bool
record_stands a k =
    cond (ltb (k / 8) a.terms.bidders && ltb (k % 8) a.terms.products)
    (record_within (price_at a (k % 8)) (before_at a (k % 8)) (cap_of (setup a) (k % 8)) (record_at a.records k))
    (record_zero (record_at a.records k))

-- "and, with f, within initial eligibility"; past the bidders in use f is 0
abbrev pub bidder_stands : Auction → ℕ → Bool
bidder_stands a b =
    cond (ltb b a.terms.bidders)
    (leb (sum_up_to (λ p. held_in (record_of a b p)) a.terms.products + free_of a b) (initial_of (setup a) b))
    (eqb (free_of a b) 0)

-- the lines from the n-th on are 0
abbrev pub zero_from : List Line → ℕ → Bool
zero_from ls n = all_up_to (λ p. cond (ltb p n) true (line_zero (on_product ls p))) 8

-- "filed cards pass 6 to 13": a filed slot is that of a bidder in use, in the present round, and its lines pass 8 to 13;
-- a slot that is not filed is 0, and so are the lines past the products in use
abbrev pub slot_stands : Auction → ℕ → Bool
slot_stands a b =
    cond (has_filed a b)
    (ltb b a.terms.bidders
    && (eqb (judged a b (slot_of a b)) 0 && zero_from (slot_of a b) a.terms.products))
    (zero_from (slot_of a b) 0)

-- "open round 1 is as opened, with p = q = starting price"
abbrev pub as_opened : Auction → Bool
as_opened a =
    all_up_to (λ k. record_zero (record_at a.records k)) 256
    && (all_up_to (λ b. eqb (free_of a b) (initial_of (setup a) b)) 32
    && all_up_to (λ p. eqb (price_at a p) (start_of (setup a) p) && eqb (before_at a p) (start_of (setup a) p)) 8)

-- "In an open round 2 nothing is kept, which standing requires."
abbrev pub nothing_kept : Auction → Bool
nothing_kept a = all_up_to (λ p. eqb (kept_on a p) 0) a.terms.products

-- "open later rounds have excess above 0"
abbrev pub open_stands : Auction → Bool
open_stands a =
    cond (eqb a.round 1) (as_opened a) (ltb 0 (excess a) && implies (eqb a.round 2) (nothing_kept a))

-- "closed and stopped states meet step 5 and hold no cards"
abbrev pub end_stands : Auction → Bool
end_stands a =
    eqb a.cards.filed 0
    && cond (eqb a.phase closed) (eqb (excess a) 0) (eqb a.phase stopped && (ltb 0 (excess a) && stops a))

abbrev pub phase_stands : Auction → Bool
phase_stands a = cond (is_open a) (open_stands a) (end_stands a)

-- "settings within limits, round 1 to 4,095"; every byte is a field's, so that what is past the counts in use, the slots not
-- filed and the bitmap's unused bits are all that is spare
unfoldable pub stands : Auction → Bool
stands a =
    within_limits (setup a)
    && (between 1 a.round 4095
    && (all_up_to (product_stands a) 8
    && (all_up_to (record_stands a) 256
    && (all_up_to (bidder_stands a) 32
    && (all_up_to (slot_stands a) 32
    && phase_stands a)))))
