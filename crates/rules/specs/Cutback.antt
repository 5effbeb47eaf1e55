-- Document 02, request 3: "Volume cutback after round 1." Assumes nothing.
use Rattle.std.specs.Prelude.{Bool, true, ◌&&◌, cond, List, [], ℕ, ◌+◌, ◌*◌, ◌-◌, ◌/◌, ◌%◌, leb, ltb, eqb}
use Rattle.rules.specs.declared.Tranches.{Tranches}
use Rattle.rules.specs.declared.Setup.{Setup}
use Rattle.rules.specs.declared.Auction.{Auction}
use Rattle.rules.specs.Count.{sum_up_to, all_up_to, list_of}
use Rattle.rules.specs.Answers.{stopped}
use Rattle.rules.specs.Parts.{tranches_at, with_phase, with_prices, unmarked, with_limits, with_free, with_records}
use Rattle.rules.specs.Settings.{item, setup, target_of, cap_of, start_of}
use Rattle.rules.specs.Held.{going_in, record_at, set_to, free_of}
use Rattle.rules.specs.Bid.{record_of}
use Rattle.rules.specs.Round.{opens_at, stops}

-- the revised number of product p
abbrev pub given_for : List Tranches → ℕ → ℕ
given_for xs p = tranches_at xs p

-- ---- the conditions of 20

-- "If round 1 leaves the auction open": a round 2 that is open
abbrev pub in_round_two : Auction → Bool
in_round_two a = eqb a.round 2

-- "and no round 2 card is filed"
abbrev pub no_card_filed : Auction → Bool
no_card_filed a = eqb a.cards.filed 0

module _ (t : Setup) (targets caps : List Tranches) where
  -- "none larger than before": than the numbers now in the state
  abbrev pub not_larger : ℕ → Bool
  not_larger p = leb (given_for targets p) (target_of t p) && leb (given_for caps p) (cap_of t p)

  -- "and none 0"
  abbrev pub not_zero : ℕ → Bool
  not_zero p = leb 1 (given_for targets p) && leb 1 (given_for caps p)

  -- "targets still ranked"
  abbrev pub still_ranked : ℕ → Bool
  still_ranked p = cond (eqb p 0) true (leb (given_for targets p) (given_for targets (p - 1)))

  -- "caps at most targets"
  abbrev pub cap_at_most_target : ℕ → Bool
  cap_at_most_target p = leb (given_for caps p) (given_for targets p)

  -- past the products in use 0
  abbrev pub unused_zero : ℕ → Bool
  unused_zero p = eqb (given_for targets p) 0 && eqb (given_for caps p) 0

  abbrev pub numbers_fit : ℕ → Bool
  numbers_fit p =
      cond (ltb p t.terms.products) (not_larger p && (not_zero p && (still_ranked p && cap_at_most_target p))) (unused_zero p)

  -- "The statewide cap stays, so a new volume below it is refused."
  abbrev pub volume_fits : Bool
  volume_fits = leb t.terms.statewide.0 (sum_up_to (given_for targets) t.terms.products)

-- "the manager may give revised targets and product caps": else 20, "any condition on the cutback above not met"
abbrev pub may_cut : Auction → List Tranches → List Tranches → Bool
may_cut a targets caps =
    in_round_two a
    && (no_card_filed a && (all_up_to (numbers_fit (setup a) targets caps) 8 && volume_fits (setup a) targets caps))

-- ---- the cutback

-- the revised targets and caps take the place of the settings' own; every other setting stays
unfoldable pub revised : Setup → List Tranches → List Tranches → Setup
revised t targets caps = record {
  terms = t.terms;
  item = list_of (λ p. item (given_for targets p) (given_for caps p) (start_of t p)) 8;
  eligibility = t.eligibility;
  decrements = t.decrements;
}

-- what the reduced caps take off bidder b
abbrev pub cut_from : Auction → List Tranches → ℕ → ℕ
cut_from a caps b = sum_up_to (λ p. going_in (record_of a b p) - given_for caps p) a.terms.products

-- "the difference becomes its free eligibility": it is added to what is free
abbrev pub free_cut : Auction → List Tranches → ℕ → ℕ
free_cut a caps b = free_of a b + cut_from a caps b

-- "A bidder above a reduced cap is set to the cap"
abbrev pub set_to_caps : Auction → List Tranches → Auction
set_to_caps a caps =
    with_free (with_records a (list_of (λ k. set_to (record_at a.records k) (given_for caps (k % 8))) 256)) (free_cut a caps)

-- "the reduced book", at the starting prices, "overrides and their marks dropped", and as it is if it stops
unfoldable pub reduced : Auction → List Tranches → List Tranches → Auction
reduced a targets caps =
    with_phase (
    with_prices (unmarked (with_limits (set_to_caps a caps) (given_for targets) (given_for caps))) (start_of (setup a)) (start_of (setup a))) stopped

-- "Step 5's stop applies again: the auction is then stopped in round 2, with p = q = starting price"; otherwise "Round 2 prices are
-- worked out afresh from the starting prices and the reduced book", so that q is the starting price of every product, fallen or not
abbrev pub settled_again : Auction → Auction
settled_again z = cond (stops z) z (opens_at [] z.round z)

unfoldable pub cut_back : Auction → List Tranches → List Tranches → Auction
cut_back a targets caps = settled_again (reduced a targets caps)

-- ---- the helper

-- "tranches bid times 100 over the target ratio in hundredths, rounded down"
abbrev pub suggested_volume : ℕ → ℕ → ℕ
suggested_volume bid ratio = bid * 100 / ratio

-- 31: "a ratio of 0 or more than 51,200 tranches bid"
abbrev pub suggested_number : ℕ → ℕ → ℕ
suggested_number bid ratio = cond (eqb ratio 0) 31 (cond (leb bid 51200) 0 31)
