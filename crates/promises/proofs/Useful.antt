-- "Four useless boxes are shut out": one that refuses all, one with a constant answer, one that never writes, and one that calculates only
-- round 1 and pretends later. Assumes nothing.
use mathlib.Core.Path.{◌≡◌, refl, sym, ◌∙◌, ap}
use mathlib.Core.Bool.{Bool, true, false, cond}
use mathlib.Core.List.{List, [], ◌∷◌}
use Prim.Native.Nat.{ℕ, ◌<◌}
use native.Mathlib.Omega.{arith}
use borrow.Author.Tests.{eqb-true, eq-eqb}
use lib.ListN.{length, replicate, length-replicate}
use lib.Count.{ones}
use lib.Dec.{eqb}
use Rattle.rules.specs.declared.Refusal.{Refusal}
use Rattle.std.specs.Prelude.{Some, Result}
use Rattle.rules.specs.Price.{Override}
use Rattle.rules.specs.declared.Tranches.{Tranches}
use Rattle.rules.specs.declared.Settings.{Settings}
use Rattle.rules.specs.declared.Product.{Product}
use Rattle.rules.specs.declared.Unit.TheVariants as unit
use Rattle.rules.specs.declared.Auction.{Auction}
use Rattle.rules.specs.declared.Outbid.{Outbid}
use Rattle.rules.specs.declared.Calculation.{Calculation}
use Rattle.rules.specs.Count.{all_up_to, from}
use Rattle.rules.specs.Units.{tranches, points, quote}
use Rattle.rules.specs.Answers.{Outcome, said, answer_of, card_said, count_said, calculation_said, report_said, award_said, volume_said, closed, stopped}
use Rattle.rules.specs.Parts.{row, no_row}
use Rattle.rules.specs.Settings.{setup, no_product, settings_fit, setup_of, target_of, cap_of}
use Rattle.rules.specs.Bits.{bit_at, field_at, set_in, set_bit, put_field}
use Rattle.rules.specs.Lots.{no_lots, in_order, exits_fit}
use Rattle.rules.specs.Card.{line, no_line, read_lines, read_card, put_lot, put_lots, put_line, put_lines, card_of, write_number, write_card}
use Rattle.rules.specs.Held.{excess}
use Rattle.rules.specs.Bid.{judged}
use Rattle.rules.specs.Keep.{keep_loop}
use Rattle.rules.specs.Outbid.{deemed_up_to, outbid_loop}
use Rattle.rules.specs.Round.{after_step2, after_step4, at_rest, onward, stops, settled, calculated}
use Rattle.rules.specs.Cutback.{given_for, revised}
use Rattle.rules.specs.Report.{report_on, result_of}
use Rattle.rules.specs.Layout.{state_length, loaded, all_zero}
use Rattle.rules.specs.Legal.{is_open}
use Rattle.rules.specs.Calls.{opened, open_number, open_call, of_state, card_number, with_card, after_card, file_call, open_number_of, count_call, round_number, calculate_number, calculate_call, plain_number, plain_call, cut_number, cutback_number, cutback_call, bidder_number, report_call, closed_number, result_call, return_call, read_call, write_call, suggested_call}
use Rattle.rules.proofs.Lists.{clash}
use Rattle.laws.proofs.Calling.{granted}
use Rattle.laws.specs.OneCall.{StandsIn}
use Rattle.laws.proofs.OneCall.{not_issued, of_standing, zeros, open_stands_lem, open_loaded, open_standing, file_loaded, file_stands, calculate_accepts, calculate_loaded, calculate_stands, cutback_only, return_issued}
use Rattle.laws.proofs.Plain.{plain_accepts, plain_call_lem}
use Rattle.rules.proofs.Reduced.{revised_target, revised_cap}
use Rattle.promises.specs.Runs.{opened_by}
use Rattle.promises.specs.Awards.{Closed}
use Rattle.promises.proofs.Closing.{closed_gives}

-- ---- not one that never writes, nor one that pretends to calculate

-- an opening accepted changes the state
pub open_writes : (s : List ℕ) (x : Settings) → open_number s x ≡ 0 → length x.eligibility ≡ 32 → length x.row ≡ 8
    → (open_call s x).bytes ≡ s → ⊥
open_writes s x new e r q =
    let l = granted (eqb (length s) state_length) _ 1 (omega arith) new in
    let z = (granted (all_zero s) _ 17 (omega arith) l.1).0 in
    clash z (ap all_zero (sym q) ∙ not_issued _ (open_stands_lem s x new e r))

rest_other : (a : Auction) (os : List Override) (o : Outbid) (t u : Bool) → is_open a ≡ true
    → cond t (at_rest closed a o) (cond u (at_rest stopped a o) (onward os (at_rest closed a o))) ≡ a → ⊥
rest_other a os o true u h e = let x = eqb-true a.phase 1 h in let y = ap (λ z. z.phase) e in omega arith
rest_other a os o false true h e = let x = eqb-true a.phase 1 h in let y = ap (λ z. z.phase) e in omega arith
rest_other a os o false false h e = let y = ap (λ z. z.round) e in omega arith

settled_other : (a : Auction) (os : List Override) (o : Outbid) → is_open a ≡ true → settled a os o ≡ a → ⊥
settled_other a os o = rest_other a os o (eqb (excess (at_rest closed a o)) 0) (stops (at_rest closed a o))

round_other : (a : Auction) (draw : List ℕ) (os : List Override) → is_open a ≡ true → (calculated a draw os).auction ≡ a → ⊥
unfolding calculated
round_other a draw os = settled_other a os (after_step4 a draw (after_step2 a draw).places)

-- a calculation accepted changes the state, in every round
pub calculate_writes : (s : List ℕ) → StandsIn s → (draw : List ℕ) (os : List Override) → calculate_number s draw os ≡ 0 → (calculate_call s draw os).bytes ≡ s → ⊥
calculate_writes s S draw os n q =
    round_other (loaded s) draw os (calculate_accepts s S draw os n).0 (sym (calculate_loaded s S draw os n) ∙ ap loaded q)

-- and so in any order of the products
pub plain_writes : (s : List ℕ) → StandsIn s → (draw : List ℕ) (os : List Override) (order : List ℕ) → plain_number s draw os order ≡ 0
    → (plain_call s draw os order).bytes ≡ s → ⊥
plain_writes s S draw os order n q =
    let p = plain_accepts s draw os order n in
    calculate_writes s S draw os p.0 (sym (ap (λ (o : Outcome (Result Calculation Refusal)). o.bytes) (plain_call_lem s draw os order p.1)) ∙ q)

-- a cutback accepted that revises a target or a cap changes the state
pub cutback_writes : (s : List ℕ) → StandsIn s → (targets caps : List Tranches) → cutback_number s targets caps ≡ 0
    → (cutback_call s targets caps).bytes ≡ s
    → (p : ℕ) → p < 8 → (given_for targets p ≡ target_of (setup (loaded s)) p) × (given_for caps p ≡ cap_of (setup (loaded s)) p)
cutback_writes s S targets caps n q p h =
    let t : setup (loaded s) ≡ revised (setup (loaded s)) targets caps =
    ap (λ b. setup (loaded b)) (sym q) ∙ (cutback_only s S targets caps n).settings in
    let x = ap (λ t. target_of t p) t in
    let y = ap (λ t. cap_of t p) t in
    (sym (x ∙ revised_target (setup (loaded s)) targets caps p h), sym (y ∙ revised_cap (setup (loaded s)) targets caps p h))

-- ---- not one that refuses all, nor one with a constant answer: setting S

abbrev product : ℕ → ℕ → Product
product t x = record { target = tranches t; cap = tranches t; start = (quote 0 x).price }

-- a new box
unfoldable pub new_box : List ℕ
new_box = replicate state_length 0

unfoldable pub setting_s : Settings
setting_s = record {
  unit = unit.Kwh;
  products = 2;
  bidders = 3;
  rows = 2;
  statewide = tranches 5;
  product = product 3 1000 ∷ product 2 800 ∷ replicate 6 no_product;
  eligibility = tranches 3 ∷ tranches 3 ∷ tranches 3 ∷ replicate 29 (tranches 0);
  row = row 0 100 ∷ row 50 300 ∷ replicate 6 no_row;
}

-- bidder 0 in round 1: two tranches of the first product
unfoldable pub card_of0 : List ℕ
card_of0 = 0 ∷ 0 ∷ 129 ∷ replicate 27 0

unfoldable pub draw012 : List ℕ
draw012 = 0 ∷ 1 ∷ 2 ∷ []

new_by : (x : Settings) → settings_fit x ≡ true → (n : ℕ) → n ≡ state_length → open_number (replicate n 0) x ≡ 0
new_by x f n e = rw (zeros n, f, length-replicate {A = ℕ} n 0, eq-eqb n state_length e)

-- it takes every setting that fits
pub new_takes : (x : Settings) → settings_fit x ≡ true → open_number new_box x ≡ 0
unfolding new_box
new_takes x f = new_by x f state_length refl

S_fits : settings_fit setting_s ≡ true
unfolding setting_s setup_of all_up_to from
S_fits = refl

pub new_opens : open_number new_box setting_s ≡ 0
new_opens = new_takes setting_s S_fits

-- the state that it then has
abbrev pub open_box : List ℕ
open_box = opened_by new_box setting_s

open_box_lem : StandsIn open_box
unfolding setting_s
open_box_lem = open_stands_lem new_box setting_s new_opens refl refl

pub open_auction : loaded open_box ≡ opened (setup_of setting_s)
unfolding setting_s
open_auction = open_loaded new_box setting_s new_opens refl refl

-- what a call answers of it
pub box_says : (n : ℕ) (says : Auction → ℕ) → of_state open_box n says ≡ says (opened (setup_of setting_s))
box_says n says = of_standing open_box open_box_lem n says ∙ ap says open_auction

-- an opening, a card and a calculation, each accepted once and refused once
pub open_answers : (answer_of (open_call new_box setting_s).answer ≡ said 0 []) × (answer_of (open_call open_box setting_s).answer ≡ said 17 [])
unfolding open_call
open_answers = (rw new_opens, (open_standing open_box setting_s open_box_lem).0)

pub file_answers : (answer_of (file_call open_box card_of0).answer ≡ said 0 []) × (answer_of (file_call open_box []).answer ≡ said 4 [])
unfolding file_call setting_s card_of0 opened setup_of all_up_to from in_order exits_fit judged read_card read_lines field_at bit_at
file_answers = (rw (box_says 3 (card_number card_of0)), rw (box_says 3 (card_number [])))

none_kept : ((calculated (opened (setup_of setting_s)) draw012 []).kept ≡ 0) × ((calculated (opened (setup_of setting_s)) draw012 []).outbid ≡ 0)
unfolding setting_s draw012 opened setup_of all_up_to from calculated keep_loop deemed_up_to outbid_loop
none_kept = (refl, refl)

pub calculate_answers : (calculation_said (calculate_call open_box draw012 []).answer ≡ said 0 (0 ∷ 0 ∷ []))
    × (calculation_said (calculate_call open_box [] []).answer ≡ said 14 [])
unfolding calculate_call setting_s draw012 opened setup_of all_up_to from
calculate_answers =
    (rw (box_says 3 (round_number draw012 []), open_auction, none_kept.0, none_kept.1), rw (box_says 3 (round_number [] [])))

-- an override of 0, the draw in order and not
unfoldable pub by_zero : List Override
by_zero = Some (points 0) ∷ []

pub override_answers : (calculation_said (calculate_call open_box draw012 by_zero).answer ≡ said 19 [])
    × (calculation_said (calculate_call open_box [] by_zero).answer ≡ said 14 [])
unfolding calculate_call setting_s draw012 by_zero opened setup_of all_up_to from
override_answers = (rw (box_says 3 (round_number draw012 by_zero)), rw (box_says 3 (round_number [] by_zero)))

pub plain_answers : (calculation_said (plain_call open_box draw012 [] (1 ∷ 0 ∷ [])).answer ≡ said 0 (0 ∷ 0 ∷ []))
    × (calculation_said (plain_call open_box draw012 [] (1 ∷ 1 ∷ [])).answer ≡ said 23 [])
    × (calculation_said (plain_call open_box draw012 by_zero (1 ∷ 1 ∷ [])).answer ≡ said 19 [])
unfolding plain_call setting_s draw012 by_zero opened setup_of all_up_to from
plain_answers = (
  ap (λ (o : Outcome (Result Calculation Refusal)). calculation_said o.answer) (plain_call_lem open_box draw012 [] (1 ∷ 0 ∷ []) (rw open_auction)) ∙ calculate_answers.0,
  rw (box_says 3 (round_number draw012 []), open_auction),
  rw (box_says 3 (round_number draw012 by_zero)),
)

-- and so of the other calls: the box as opened, and as a round without a card closes it
abbrev pub closed_box : List ℕ
closed_box = (calculate_call open_box draw012 []).bytes

closed_auction : loaded closed_box ≡ (calculated (opened (setup_of setting_s)) draw012 []).auction
unfolding setting_s draw012 opened setup_of all_up_to from
closed_auction =
    calculate_loaded open_box open_box_lem draw012 [] (box_says 3 (round_number draw012 [])) ∙ ap (λ a. (calculated a draw012 []).auction) open_auction

pub closed_box_lem : Closed closed_box
unfolding setting_s draw012 opened setup_of all_up_to from calculated keep_loop deemed_up_to outbid_loop
closed_box_lem = ap (λ a. a.phase) closed_auction

pub count_answers : (count_said (count_call open_box) ≡ said 0 (3 ∷ [])) × (count_said (count_call []) ≡ said 1 [])
unfolding count_call setting_s opened setup_of ones
count_answers = (rw (box_says 3 open_number_of, open_auction), refl)

reported : bidder_number 0 (calculated (opened (setup_of setting_s)) draw012 []).auction ≡ 0
unfolding setting_s draw012 opened setup_of all_up_to from calculated keep_loop deemed_up_to outbid_loop
reported = refl

first_report : report_said (report_on (calculated (opened (setup_of setting_s)) draw012 []).auction 0).report ≡ said 0 (0 ∷ closed ∷ 0 ∷ 20 ∷ [])
unfolding report_on setting_s draw012 opened setup_of all_up_to from calculated keep_loop deemed_up_to outbid_loop
first_report = refl

pub report_answers : (report_said (report_call closed_box 0).report ≡ said 0 (0 ∷ closed ∷ 0 ∷ 20 ∷ []))
    × (report_said (report_call open_box 0).report ≡ said 18 [])
unfolding report_call setting_s opened setup_of
report_answers = (
  rw (of_standing closed_box (calculate_stands open_box open_box_lem draw012 []) 3 (bidder_number 0), closed_auction, reported) first_report,
  rw (box_says 3 (bidder_number 0)),
)

pub result_answers : (award_said (result_call closed_box).award ≡ said 0 []) × (award_said (result_call open_box).award ≡ said 16 [])
unfolding result_call result_of opened
result_answers =
    (rw (closed_gives closed_box (calculate_stands open_box open_box_lem draw012 []) closed_box_lem), rw (box_says 16 closed_number))

pub read_answers : (card_said (read_call card_of0 2).card ≡ said 0 (0 ∷ 1 ∷ [])) × (card_said (read_call [] 2).card ≡ said 4 [])
unfolding card_of0 read_card read_lines field_at bit_at
read_answers = (refl, refl)

pub write_answers : (answer_of (write_call (replicate 30 0) 2 0 1 (line 2 no_lots 0 ∷ replicate 7 no_line)).answer ≡ said 0 [])
    × ((write_call (replicate 30 0) 2 0 1 (line 2 no_lots 0 ∷ replicate 7 no_line)).bytes ≡ card_of0)
    × (answer_of (write_call [] 2 0 1 (replicate 8 no_line)).answer ≡ said 4 [])
unfolding card_of0 write_card write_number card_of put_lines put_line put_lots put_lot put_field set_bit set_in all_up_to
write_answers = (refl, refl, refl)

pub return_answers : (answer_of (return_call open_box).answer ≡ said 0 []) × (answer_of (return_call []).answer ≡ said 1 [])
unfolding return_call
return_answers = ((return_issued open_box open_box_lem.long).0, refl)

pub suggested_answers : (volume_said (suggested_call 72 150) ≡ said 0 (48 ∷ [])) × (volume_said (suggested_call 72 0) ≡ said 31 [])
unfolding suggested_call
suggested_answers = (refl, refl)

-- ---- a cutback, after a round 1 in which bidders 0 and 1 each bid two tranches of the first product

unfoldable pub card_of1 : List ℕ
card_of1 = 8 ∷ 0 ∷ 129 ∷ replicate 27 0

-- what a call says of a box whose auction is known
says_of : (s : List ℕ) → StandsIn s → (a : Auction) → loaded s ≡ a → (n : ℕ) (says : Auction → ℕ) → of_state s n says ≡ says a
says_of s S a e n says = of_standing s S n says ∙ ap says e

abbrev box1 : List ℕ
box1 = (file_call open_box card_of0).bytes

abbrev auction1 : Auction
auction1 = after_card card_of0 (opened (setup_of setting_s))

holds1 : loaded box1 ≡ auction1
unfolding setting_s card_of0 opened setup_of all_up_to from in_order exits_fit judged read_card read_lines field_at bit_at
holds1 = file_loaded open_box open_box_lem card_of0 (box_says 3 (card_number card_of0)) ∙ ap (after_card card_of0) open_auction

abbrev box2 : List ℕ
box2 = (file_call box1 card_of1).bytes

abbrev auction2 : Auction
auction2 = after_card card_of1 auction1

stands1 : StandsIn box1
stands1 = file_stands open_box open_box_lem card_of0

holds2 : loaded box2 ≡ auction2
unfolding setting_s card_of0 card_of1 opened setup_of all_up_to from in_order exits_fit judged read_card read_lines field_at bit_at with_card set_in
holds2 = file_loaded box1 stands1 card_of1 (says_of box1 stands1 auction1 holds1 3 (card_number card_of1)) ∙ ap (after_card card_of1) holds1

stands2 : StandsIn box2
stands2 = file_stands box1 stands1 card_of1

-- the box in round 2, in which no card is filed
abbrev pub round_two : List ℕ
round_two = (calculate_call box2 draw012 []).bytes

holds3 : loaded round_two ≡ (calculated auction2 draw012 []).auction
unfolding setting_s draw012 card_of0 card_of1 opened setup_of all_up_to from read_card read_lines field_at bit_at with_card
holds3 =
    calculate_loaded box2 stands2 draw012 [] (says_of box2 stands2 auction2 holds2 3 (round_number draw012 []))
    ∙ ap (λ a. (calculated a draw012 []).auction) holds2

abbrev two : ℕ → ℕ → List Tranches
two x y = tranches x ∷ tranches y ∷ replicate 6 (tranches 0)

-- a reduced cap is accepted; a volume below the statewide cap is refused
pub cutback_answers : (answer_of (cutback_call round_two (two 3 2) (two 1 2)).answer ≡ said 0 [])
    × (answer_of (cutback_call round_two (two 2 2) (two 1 2)).answer ≡ said 20 [])
unfolding cutback_call setting_s draw012 card_of0 card_of1 opened setup_of all_up_to from read_card read_lines field_at bit_at with_card set_in calculated keep_loop deemed_up_to outbid_loop
cutback_answers =
    let S = calculate_stands box2 stands2 draw012 [] in
    (rw (says_of round_two S _ holds3 3 (cut_number (two 3 2) (two 1 2))), rw (says_of round_two S _ holds3 3 (cut_number (two 2 2) (two 1 2))))
