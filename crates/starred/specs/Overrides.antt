-- Document 02, request 1: overrides as one table, computed over the definitions, beside the starred cases. Assumes nothing.
use Rattle.std.specs.Prelude.{◌≡◌, refl, true, List, [], ◌∷◌, ◌++◌, ℕ, replicate, Some}
use Rattle.rules.specs.Price.{Override}
use Rattle.rules.specs.declared.Line.{Line}
use Rattle.rules.specs.declared.Setup.{Setup}
use Rattle.rules.specs.declared.Auction.{Auction}
use Rattle.rules.specs.Count.{all_up_to, from}
use Rattle.rules.specs.Units.{tranches, points}
use Rattle.rules.specs.Answers.{bids_open, closed, stopped}
use Rattle.rules.specs.Bits.{set_in}
use Rattle.rules.specs.Lots.{first_used, last_used, in_order, exits_fit}
use Rattle.rules.specs.Parts.{lane, no_lane, seat, no_seat, row, no_row, table, no_cards, auction}
use Rattle.rules.specs.Settings.{item, no_item}
use Rattle.rules.specs.Held.{nothing}
use Rattle.rules.specs.Bid.{judged}
use Rattle.rules.specs.Keep.{keep_loop}
use Rattle.rules.specs.Outbid.{deemed_up_to, outbid_loop}
use Rattle.rules.specs.Round.{not_chosen, calculated}
use Rattle.rules.specs.Cutback.{may_cut, revised, reduced, cut_back}
use Rattle.rules.specs.Legal.{stands}
use Rattle.rules.specs.Calls.{opened, with_card, round_number}
use Rattle.starred.specs.Cases.{line, g, b, card, figures}

-- ---- how a row is written

-- two products, each with a target of 1, and two bidders; the first product's starting price
abbrev settings : ℕ → Setup
settings start = record {
  terms = record { unit = 0; products = 2; bidders = 2; statewide = tranches 2 };
  item = item 1 1 start ∷ item 1 1 800 ∷ replicate 6 no_item;
  eligibility = tranches 1 ∷ tranches 1 ∷ replicate 30 (tranches 0);
  decrements = table 2 (row 0 100 ∷ row 50 300 ∷ replicate 6 no_row);
}

-- the first product's starting price; phase and round; its going price, the price before and the mark; what the second bidder has of it,
-- the first having 1
abbrev state : ℕ → ℕ → ℕ → ℕ → ℕ → ℕ → ℕ → Auction
state start phase round p q mark n =
    auction phase round (settings start).terms
    (lane 1 1 start p q mark ∷ lane 1 1 800 800 800 0 ∷ replicate 6 no_lane)
    (seat 1 0 ∷ seat 1 0 ∷ replicate 30 no_seat)
    (settings start).decrements (g 1 ∷ replicate 7 nothing ++ g n ∷ replicate 247 nothing) no_cards

abbrev none : Override
none = not_chosen

abbrev by : ℕ → Override
by n = Some (points n)

-- the same for both products: the second is never above its target
abbrev both : Override → List Override
both o = o ∷ o ∷ replicate 6 none

pub data Row : Type 0 where
  -- round 1, both bidding 1 on the first product: its starting price; the override; its price for round 2 and the mark
  first : ℕ → Override → ℕ → ℕ → Row
  -- before; the second bidder's line on the first product, the first bidding 1; the override; after
  then : Auction → Line → Override → Auction → Row
  -- before and after a cutback that changes no number
  cut : Auction → Auction → Row
  -- an auction, a draw, overrides and the number of a refusal
  refused : Auction → List ℕ → List Override → ℕ → Row

-- ---- what a row says

abbrev filed : Auction → Line → Auction
filed a l = with_card (with_card a 0 (card (b 1) (b 0))) 1 (card l (b 0))

abbrev Played : Auction → Line → Override → Auction → Type 0
Played a l o z =
    (stands (filed a l) ≡ true)
    × (round_number (0 ∷ 1 ∷ []) (both o) (filed a l) ≡ 0)
    × (calculated (filed a l) (0 ∷ 1 ∷ []) (both o) ≡ figures z 0 0)
    × (stands z ≡ true)

unfoldable pub Shown : Row → Type 0
Shown (first start o p mark) = Played (opened (settings start)) (b 1) o (state start bids_open 2 p start mark 1)
Shown (then a l o z) = Played a l o z
Shown (cut a z) =
    let targets = tranches 1 ∷ tranches 1 ∷ replicate 6 (tranches 0) in
    (stands a ≡ true) × (may_cut a targets targets ≡ true) × (cut_back a targets targets ≡ z) × (stands z ≡ true)
Shown (refused a draw os n) = round_number draw os a ≡ n

unfoldable pub AllShown : List Row → Type 0
AllShown [] = Unit {0}
AllShown (r ∷ rs) = Shown r × AllShown rs

-- round 2 after an override of 1,000
abbrev a2 : Auction
a2 = state 10000 bids_open 2 9000 10000 1 1

unfoldable pub overrides : List Row
overrides =
    -- the table's decrement is 300; none given, the least, the most
    first 10000 none 9700 0
    ∷ first 10000 (by 1) 9999 1
    ∷ first 10000 (by 1000) 9000 1
    -- one equal to the table's is marked
    ∷ first 10000 (by 300) 9700 1
    -- half up: 5,000 x 3 / 10,000 is 1.5; "at least 1": 2 x 1,000 / 10,000 is 0.2; 5 x 1,000 / 10,000 is 0.5
    ∷ first 5000 (by 3) 4998 1
    ∷ first 2 (by 1000) 1 1
    ∷ first 5 (by 1000) 4 1
    -- a calculation with none given drops the mark
    ∷ then a2 (b 1) none (state 10000 bids_open 3 8730 9000 0 1)
    -- in a round that closes, and in one that stops, an override does nothing, and no mark stays
    ∷ then a2 (line 0 1 10000 0) (by 1000) (state 10000 closed 2 9000 10000 0 0)
    ∷ then (state 2 bids_open 2 1 2 1 1) (b 1) (by 1000) (state 2 stopped 2 1 2 0 1)
    -- a cutback drops the mark and the manager's price
    ∷ cut a2 (state 10000 bids_open 2 9700 10000 0 1)
    -- 19: 0 and 1,001, also on a product that is not above target, and past the products in use
    ∷ refused a2 (0 ∷ 1 ∷ []) (by 0 ∷ replicate 7 none) 19
    ∷ refused a2 (0 ∷ 1 ∷ []) (by 1001 ∷ replicate 7 none) 19
    ∷ refused a2 (0 ∷ 1 ∷ []) (none ∷ by 0 ∷ replicate 6 none) 19
    ∷ refused a2 (0 ∷ 1 ∷ []) (replicate 7 none ++ by 1001 ∷ []) 19
    -- 14 before 19
    ∷ refused a2 (0 ∷ 0 ∷ []) (both (by 0)) 14
    ∷ []

-- every row is as it says
pub overrides_hold : AllShown overrides
unfolding Shown AllShown overrides all_up_to from set_in first_used last_used in_order exits_fit judged keep_loop deemed_up_to outbid_loop calculated stands opened with_card revised reduced cut_back
overrides_hold =
    ((refl, refl, refl, refl), ((refl, refl, refl, refl), ((refl, refl, refl, refl), ((refl, refl, refl, refl), ((refl, refl, refl, refl), ((refl, refl, refl, refl), ((refl, refl, refl, refl), ((refl, refl, refl, refl), ((refl, refl, refl, refl), ((refl, refl, refl, refl), ((refl, refl, refl, refl), (refl, (refl, (refl, (refl, (refl, tt))))))))))))))))
