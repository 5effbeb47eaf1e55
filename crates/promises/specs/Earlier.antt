-- The calculation as it was before request 1 of document 02, which knew neither overrides nor marks: document 01's words alone. Assumes
-- nothing.
use Rattle.rules.specs.declared.Refusal.{Refusal}
use Rattle.std.specs.Prelude.{cond, List, ℕ, ◌+◌, eqb, Result, Err}
use Rattle.rules.specs.declared.Kept.{Kept}
use Rattle.rules.specs.declared.Outbid.{Outbid}
use Rattle.rules.specs.declared.Auction.{Auction}
use Rattle.rules.specs.declared.Calculated.{Calculated}
use Rattle.rules.specs.declared.Calculation.{Calculation}
use Rattle.rules.specs.Answers.{Outcome, outcome, bids_open, closed, stopped, refusal_of}
use Rattle.rules.specs.Parts.{no_cards, with_phase, with_round, with_prices, unmarked, with_cards}
use Rattle.rules.specs.Settings.{setup, target_of}
use Rattle.rules.specs.Held.{standing_of, excess, above, above_zero}
use Rattle.rules.specs.Bid.{price_at}
use Rattle.rules.specs.Price.{decrement_for, fallen}
use Rattle.rules.specs.Round.{draw_fits, after_step2, after_step4, booked, before_next, stops}
use Rattle.rules.specs.Layout.{loaded}
use Rattle.rules.specs.Legal.{is_open}
use Rattle.rules.specs.Calls.{of_state, calculation_done}

-- "Next price of a product above target"; "Other prices stay."
abbrev pub price_by_table : Auction → ℕ → ℕ
price_by_table a p =
    cond (above (standing_of a p)) (fallen (price_at a p) (decrement_for a.decrements (above_zero (standing_of a p)) (target_of (setup a) p)))
    (price_at a p)

abbrev pub rested_earlier : ℕ → Auction → Outbid → Auction
rested_earlier phase a o = with_phase (with_cards (booked a o) no_cards) phase

-- "prices fall and the next round opens"
abbrev pub onward_earlier : Auction → Auction
onward_earlier a = with_phase (with_round (with_prices a (price_by_table a) (before_next a)) (a.round + 1)) bids_open

-- "If it is 0 the auction is closed. Otherwise, .. it is stopped. Otherwise prices fall and the next round opens."
abbrev pub settled_earlier : Auction → Outbid → Auction
settled_earlier a o =
    cond (eqb (excess (rested_earlier closed a o)) 0) (rested_earlier closed a o)
    (cond (stops (rested_earlier closed a o)) (rested_earlier stopped a o) (onward_earlier (rested_earlier closed a o)))

-- with no marks
abbrev pub counted_earlier : Auction → Kept → Outbid → Calculated
counted_earlier a k o = record { auction = unmarked (settled_earlier a o); kept = k.count; outbid = o.count }

abbrev pub kept_earlier : Auction → List ℕ → Kept → Calculated
kept_earlier a draw k = counted_earlier a k (after_step4 a draw k.places)

abbrev pub calculated_earlier : Auction → List ℕ → Calculated
calculated_earlier a draw = kept_earlier a draw (after_step2 a draw)

-- 1, 2, 3, 14
abbrev pub number_earlier : List ℕ → List ℕ → ℕ
number_earlier s draw = of_state s 3 (λ a. cond (is_open a) (cond (draw_fits a.terms.bidders draw) 0 14) 3)

abbrev pub call_earlier : List ℕ → List ℕ → Outcome (Result Calculation Refusal)
call_earlier s draw =
    cond (eqb (number_earlier s draw) 0)
    (calculation_done (calculated_earlier (loaded s) draw))
    (outcome (Err (refusal_of (number_earlier s draw))) s)
