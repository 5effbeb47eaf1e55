-- "Calculating": a whole round, and step 5. Assumes nothing.
use Rattle.std.specs.Prelude.{Bool, true, ◌&&◌, cond, List, ℕ, ◌+◌, ◌*◌, length, get_or, replicate, ltb, eqb, None, is_some}
use Rattle.rules.specs.declared.Place.{Place}
use Rattle.rules.specs.declared.Kept.{Kept}
use Rattle.rules.specs.declared.Outbid.{Outbid}
use Rattle.rules.specs.declared.Auction.{Auction}
use Rattle.rules.specs.declared.Calculated.{Calculated}
use Rattle.rules.specs.Count.{all_up_to, first_up_to, list_of}
use Rattle.rules.specs.Units.{tranches}
use Rattle.rules.specs.Answers.{bids_open, closed, stopped}
use Rattle.rules.specs.Parts.{tranches_at, no_cards, with_phase, with_round, with_prices, with_marks, unmarked, with_free, with_records, with_cards}
use Rattle.rules.specs.Settings.{setup, target_of}
use Rattle.rules.specs.Held.{standing_of, ticked, excess, above}
use Rattle.rules.specs.Bid.{one_if, price_at, before_at}
use Rattle.rules.specs.Accept.{place_at, accepted_all}
use Rattle.rules.specs.Keep.{kept_all}
use Rattle.rules.specs.Plain.{plain_all}
use Rattle.rules.specs.Outbid.{deemed_up_to, outbid_all}
use Rattle.rules.specs.Price.{Override, override_fits, Worked, next_price, next_before}

-- the bidder at place i of the draw, 0 the earliest
abbrev pub drawn : List ℕ → ℕ → ℕ
drawn order i = get_or order i 0

-- "The draw order is a list of all bidders, each once, as one byte each": as many as the n bidders, each below n, and every
-- bidder found, so that none can stand twice
abbrev pub draw_fits : ℕ → List ℕ → Bool
draw_fits n order =
    eqb (length order) n
    && (all_up_to (λ i. ltb (drawn order i) n) n && all_up_to (λ b. is_some (first_up_to (λ i. eqb (drawn order i) b) n)) n)

-- "each product once": a list of all m products, as the draw is of all bidders
abbrev pub order_fits : ℕ → List ℕ → Bool
order_fits m order = draw_fits m order

-- ---- the overrides, one optional for each product

abbrev pub not_chosen : Override
not_chosen = None

-- that of product p
abbrev pub override_for : List Override → ℕ → Override
override_for os p = get_or os p not_chosen

-- every one given is "1 to 1,000", also one that would do nothing
abbrev pub overrides_fit : List Override → Bool
overrides_fit os = all_up_to (λ p. override_fits (override_for os p)) 8

-- ---- the steps in their order

abbrev pub after_step2 : Auction → List ℕ → Kept
after_step2 a order =
    kept_all a.terms.products a.terms.bidders (target_of (setup a)) (ticked a) (drawn order) (accepted_all a)

-- the same step by the plain engine, in an order of the products
abbrev pub plain_step2 : Auction → List ℕ → List ℕ → Kept
plain_step2 a draw order =
    plain_all a.terms.products a.terms.bidders (target_of (setup a)) (ticked a) (drawn draw) (drawn order) (accepted_all a)

-- "Free eligibility not used lapses": f begins again at 0
abbrev pub after_step4 : Auction → List ℕ → List Place → Outbid
after_step4 a order ps =
    outbid_all a.terms.products a.terms.bidders (target_of (setup a)) (ticked a) (drawn order)
    (deemed_up_to (ticked a) ps (a.terms.bidders * 8)) (replicate 32 (tranches 0))

-- ---- step 5

-- the book after step 4
abbrev pub booked : Auction → Outbid → Auction
booked a o = with_free (with_records a (list_of (λ k. (place_at o.places k).holds) 256)) (tranches_at o.free)

-- at the same round and prices; no cards are left, and no marks: an override "in a round that closes or stops, does nothing and isn't
-- reported"
abbrev pub at_rest : ℕ → Auction → Outbid → Auction
at_rest phase a o = with_phase (with_cards (unmarked (booked a o)) no_cards) phase

-- p and its mark, worked out from the going prices and the book
abbrev pub worked_out : List Override → Auction → ℕ → Worked
worked_out os a p = next_price a.decrements (override_for os p) (standing_of a p) (target_of (setup a) p) (price_at a p)

abbrev pub price_next : List Override → Auction → ℕ → ℕ
price_next os a p = (worked_out os a p).price

abbrev pub mark_next : List Override → Auction → ℕ → ℕ
mark_next os a p = one_if (worked_out os a p).overridden

-- and q
abbrev pub before_next : Auction → ℕ → ℕ
before_next a p = next_before (standing_of a p) (price_at a p) (before_at a p)

-- a round opens at such prices, all marks set anew
abbrev pub opens_at : List Override → ℕ → Auction → Auction
opens_at os round a =
    with_phase (with_round (with_marks (with_prices a (price_next os a) (before_next a)) (mark_next os a)) round) bids_open

-- "prices fall and the next round opens"
abbrev pub onward : List Override → Auction → Auction
onward os a = opens_at os (a.round + 1) a

-- "a product above target is at price 1, or this was round 4,095"
abbrev pub at_bottom : Auction → Bool
at_bottom a = is_some (first_up_to (λ p. above (standing_of a p) && eqb (price_at a p) 1) a.terms.products)

abbrev pub stops : Auction → Bool
stops a = cond (at_bottom a) true (eqb a.round 4095)

-- "If it is 0 the auction is closed. Otherwise, .. it is stopped. Otherwise prices fall and the next round opens."
abbrev pub settled : Auction → List Override → Outbid → Auction
settled a os o =
    cond (eqb (excess (at_rest closed a o)) 0) (at_rest closed a o)
    (cond (stops (at_rest closed a o)) (at_rest stopped a o) (onward os (at_rest closed a o)))

-- "The calculation answers the count of tranches kept in step 2 and outbid in step 4."
abbrev pub counted : Auction → List Override → Kept → Outbid → Calculated
counted a os k o = record { auction = settled a os o; kept = k.count; outbid = o.count }

abbrev pub after_kept : Auction → List ℕ → List Override → Kept → Calculated
after_kept a order os k = counted a os k (after_step4 a order k.places)

unfoldable pub calculated : Auction → List ℕ → List Override → Calculated
calculated a order os = after_kept a order os (after_step2 a order)

-- a whole calculation of which only step 2 goes by an order of the products
unfoldable pub calculated_plain : Auction → List ℕ → List Override → List ℕ → Calculated
calculated_plain a draw os order = after_kept a draw os (plain_step2 a draw order)
