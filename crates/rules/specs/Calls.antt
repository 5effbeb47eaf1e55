-- "Numbers answered": for each call one total definition of its answer and, where it is lent bytes to write, of all of them at the
-- end. What a call is lent only to read (a card, a draw, the state of count, report and result) stays as it is. Assumes nothing.
use Rattle.std.specs.Prelude.{◌&&◌, cond, List, ℕ, ◌*◌, ◌-◌, length, replicate, ltb, eqb, Result, Ok, Err}
use Rattle.std.proofs.lemmas.List.Edits.{sets}
use Rattle.std.specs.Int.Count.{ones}
use Rattle.rules.specs.Price.{Override}
use Rattle.rules.specs.declared.Tranches.{Tranches}
use Rattle.rules.specs.declared.Line.{Line}
use Rattle.rules.specs.declared.Refusal.{Refusal}
use Rattle.rules.specs.declared.Bid.{Bid}
use Rattle.rules.specs.declared.CardRead.{CardRead}
use Rattle.rules.specs.declared.Settings.{Settings}
use Rattle.rules.specs.declared.Setup.{Setup}
use Rattle.rules.specs.declared.Auction.{Auction}
use Rattle.rules.specs.declared.Calculated.{Calculated}
use Rattle.rules.specs.declared.Calculation.{Calculation}
use Rattle.rules.specs.declared.Reported.{Reported}
use Rattle.rules.specs.declared.Awarded.{Awarded}
use Rattle.rules.specs.Count.{list_of}
use Rattle.rules.specs.Answers.{Outcome, outcome, first_number, number_of, refusal_of, Answer, answer_or, unless_refused, bids_open, closed}
use Rattle.rules.specs.Parts.{lane, seat, cards, no_cards, auction, with_cards}
use Rattle.rules.specs.Settings.{settings_fit, setup_of, target_of, cap_of, start_of, initial_of}
use Rattle.rules.specs.Bits.{set_in}
use Rattle.rules.specs.Card.{read_card, write_card}
use Rattle.rules.specs.Held.{nothing}
use Rattle.rules.specs.Bid.{judged}
use Rattle.rules.specs.Round.{draw_fits, order_fits, overrides_fit, calculated, calculated_plain}
use Rattle.rules.specs.Cutback.{may_cut, cut_back, suggested_volume, suggested_number}
use Rattle.rules.specs.Report.{report_on, report_refused, result_of, result_refused}
use Rattle.rules.specs.Layout.{state_length, stored, loaded, all_zero}
use Rattle.rules.specs.Legal.{is_open, stands}

-- "Before round 1, g = d = r = 0 and f is the initial eligibility"; round 1 opens at the starting prices
unfoldable pub opened : Setup → Auction
opened t =
    auction bids_open 1 t.terms
    (list_of (λ p. lane (target_of t p) (cap_of t p) (start_of t p) (start_of t p) (start_of t p) 0) 8)
    (list_of (λ b. seat (initial_of t b) (initial_of t b)) 32)
    t.decrements (replicate 256 nothing) no_cards

-- ---- open: 1, 17, 15

abbrev pub open_number : List ℕ → Settings → ℕ
open_number s x = cond (eqb (length s) state_length) (cond (all_zero s) (cond (settings_fit x) 0 15) 17) 1

unfoldable pub open_call : List ℕ → Settings → Outcome Answer
open_call s x = unless_refused (open_number s x) (stored (opened (setup_of x))) s

-- 1 "state length wrong"; 2 "state neither issued nor standing"; of an issued state the number given; else what the auction says
abbrev pub of_state : List ℕ → ℕ → (Auction → ℕ) → ℕ
of_state s when_issued says =
    cond (eqb (length s) state_length)
    (cond (all_zero s) when_issued (cond (stands (loaded s)) (says (loaded s)) 2))
    1

-- ---- file: 1, 2, 3, 4, 5, 6 .. 13

-- 6 "no such bidder"; 7 "other round"; 8 to 13; 4 and 5 are the card's own
abbrev pub bid_number : Auction → Result Bid Refusal → List Line → ℕ
bid_number a (Err e) ls = number_of e
bid_number a (Ok x) ls = cond (ltb x.bidder a.terms.bidders) (cond (eqb x.round a.round) (judged a x.bidder ls) 7) 6

-- 3 "bids not open"
abbrev pub card_number : List ℕ → Auction → ℕ
card_number c a =
    cond (is_open a) (bid_number a (read_card c a.terms.products).card (read_card c a.terms.products).lines) 3

abbrev pub file_number : List ℕ → List ℕ → ℕ
file_number s c = of_state s 3 (card_number c)

-- "The last valid card in a round stands": the bidder's bit is set, and its slot holds the lines
unfoldable pub with_card : Auction → ℕ → List Line → Auction
with_card a b ls = with_cards a (cards (set_in a.cards.filed b 1) (sets a.cards.lines (b * 8) ls))

abbrev pub bidder_on : Result Bid Refusal → ℕ
bidder_on (Ok x) = x.bidder
bidder_on (Err e) = 0

abbrev pub after_card : List ℕ → Auction → Auction
after_card c a =
    with_card a (bidder_on (read_card c a.terms.products).card) (read_card c a.terms.products).lines

unfoldable pub file_call : List ℕ → List ℕ → Outcome Answer
file_call s c = unless_refused (file_number s c) (stored (after_card c (loaded s))) s

-- ---- count: 1, 2, 3

abbrev pub open_number_of : Auction → ℕ
open_number_of a = cond (is_open a) 0 3

abbrev pub count_number : List ℕ → ℕ
count_number s = of_state s 3 open_number_of

-- "the number of bidders still to file": the ones of the bitmap, taken from the number of bidders
abbrev pub to_file : Auction → ℕ
to_file a = a.terms.bidders - ones a.cards.filed

unfoldable pub count_call : List ℕ → Result ℕ Refusal
count_call s = answer_or (count_number s) (to_file (loaded s))

-- ---- calculate: 1, 2, 3, 14 "draw order wrong", 19 "an override outside 1 to 1,000, after 14"

abbrev pub round_number : List ℕ → List Override → Auction → ℕ
round_number draw os a = cond (is_open a) (cond (draw_fits a.terms.bidders draw) (cond (overrides_fit os) 0 19) 14) 3

abbrev pub calculate_number : List ℕ → List ℕ → List Override → ℕ
calculate_number s draw os = of_state s 3 (round_number draw os)

abbrev pub calculation_done : Calculated → Outcome (Result Calculation Refusal)
calculation_done c = outcome (Ok (record { kept = c.kept; outbid = c.outbid })) (stored c.auction)

abbrev pub calculated_unless : ℕ → Calculated → List ℕ → Outcome (Result Calculation Refusal)
calculated_unless n c s = cond (eqb n 0) (calculation_done c) (outcome (Err (refusal_of n)) s)

unfoldable pub calculate_call : List ℕ → List ℕ → List Override → Outcome (Result Calculation Refusal)
calculate_call s draw os = calculated_unless (calculate_number s draw os) (calculated (loaded s) draw os) s

-- ---- calculate with the plain engine: 1, 2, 3, 14, 19, as of calculate, then 23 "the product order isn't each product once"

abbrev pub order_number : List ℕ → Auction → ℕ
order_number order a = cond (order_fits a.terms.products order) 0 23

abbrev pub plain_number : List ℕ → List ℕ → List Override → List ℕ → ℕ
plain_number s draw os order = first_number (calculate_number s draw os) (order_number order (loaded s))

unfoldable pub plain_call : List ℕ → List ℕ → List Override → List ℕ → Outcome (Result Calculation Refusal)
plain_call s draw os order = calculated_unless (plain_number s draw os order) (calculated_plain (loaded s) draw os order) s

-- ---- cutback: 1, 2, 3, 20

abbrev pub cut_number : List Tranches → List Tranches → Auction → ℕ
cut_number targets caps a = cond (is_open a) (cond (may_cut a targets caps) 0 20) 3

abbrev pub cutback_number : List ℕ → List Tranches → List Tranches → ℕ
cutback_number s targets caps = of_state s 3 (cut_number targets caps)

unfoldable pub cutback_call : List ℕ → List Tranches → List Tranches → Outcome Answer
cutback_call s targets caps = unless_refused (cutback_number s targets caps) (stored (cut_back (loaded s) targets caps)) s

-- ---- report: 1, 2, 3 (issued), 6, 18 "open in round 1"

abbrev pub bidder_number : ℕ → Auction → ℕ
bidder_number b a = cond (ltb b a.terms.bidders) (cond (is_open a && eqb a.round 1) 18 0) 6

abbrev pub report_number : List ℕ → ℕ → ℕ
report_number s b = of_state s 3 (bidder_number b)

unfoldable pub report_call : List ℕ → ℕ → Reported
report_call s b = cond (eqb (report_number s b) 0) (report_on (loaded s) b) (report_refused (refusal_of (report_number s b)))

-- ---- result: 1, 2, 16 "auction not closed"

abbrev pub closed_number : Auction → ℕ
closed_number a = cond (eqb a.phase closed) 0 16

abbrev pub result_number : List ℕ → ℕ
result_number s = of_state s 16 closed_number

unfoldable pub result_call : List ℕ → Awarded
result_call s = cond (eqb (result_number s) 0) (result_of (loaded s)) (result_refused (refusal_of (result_number s)))

-- ---- return: 1; "A return accepts any state of the right length and leaves it all zero, as first issued."

abbrev pub return_number : List ℕ → ℕ
return_number s = cond (eqb (length s) state_length) 0 1

unfoldable pub return_call : List ℕ → Outcome Answer
return_call s = unless_refused (return_number s) (replicate state_length 0) s

-- ---- apart from any auction: read 29, 4, 5; write 29, 4, 30; suggested volume 31

abbrev pub read_call : List ℕ → ℕ → CardRead
read_call s n = read_card s n

abbrev pub write_call : List ℕ → ℕ → ℕ → ℕ → List Line → Outcome Answer
write_call room n bidder round ls = write_card room n bidder round ls

unfoldable pub suggested_call : ℕ → ℕ → Result ℕ Refusal
suggested_call bid ratio = answer_or (suggested_number bid ratio) (suggested_volume bid ratio)
