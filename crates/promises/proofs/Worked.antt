-- What is on offer, worked out for rounds of document 01's cases in the settings S and T, and for lots. Assumes nothing.
use mathlib.Core.Path.{◌≡◌, refl}
use mathlib.Core.List.{List, [], ◌∷◌}
use Prim.Native.Nat.{ℕ}
use native.Mathlib.Omega.{arith}
use Rattle.rules.specs.declared.Lots.{Lots}
use Rattle.rules.specs.Count.{all_up_to, from}
use Rattle.rules.specs.Bits.{set_in}
use Rattle.rules.specs.Lots.{lot, no_lot, one_lot, first_used}
use Rattle.rules.specs.Keep.{keep_loop}
use Rattle.rules.specs.Calls.{opened, with_card}
use Rattle.starred.specs.Cases.{S, T, s1, s2, t1, t2, line, b, card, filed, draw}
use Rattle.starred.specs.Lots.{W, l1, l2, lots0, lots1, w as withdraws}
use Rattle.promises.specs.Runs.{Round}
use Rattle.promises.specs.Offered.{OnOffer, on_offer, in_rounds, given_up, withdrawn_in}
use Rattle.promises.specs.Demands.{LotOffered}

-- bid and its price; switched and the price before; the lots withdrawn; ever offered
abbrev offer_of : ℕ → ℕ → ℕ → ℕ → Lots → ℕ → OnOffer
offer_of n x s y l all = record { bid = n; price = x; switched = s; before = y; exits = l; ever = all }

-- those withdrawn at one exit price
abbrev offer : ℕ → ℕ → ℕ → ℕ → ℕ → ℕ → ℕ → OnOffer
offer n x s y w e all = offer_of n x s y (one_lot w e) all

unfoldable pub rounds_of_s : List Round
rounds_of_s =
    record { auction = filed (opened S) (card (b 2) (b 0)) (card (b 2) (b 1)) (card (b 1) (b 1)); draw = draw 0 1 2; overrides = [] }
    ∷ record { auction = filed s1 (card (line 1 1 985 0) (b 0)) (card (b 1) (line 2 0 0 1)) (card (line 0 1 980 0) (b 1)); draw = draw 0 1 2; overrides = [] }
    ∷ record { auction = filed s2 (card (b 1) (b 0)) (card (b 1) (line 1 1 790 0)) (card (b 0) (line 0 1 790 0)); draw = draw 2 0 1; overrides = [] }
    ∷ []

-- in the last of these bidder 0's denied switch is deemed bid
unfoldable pub rounds_of_t : List Round
rounds_of_t =
    record { auction = filed (opened T) (card (b 2) (b 0)) (card (b 1) (b 1)) (card (b 0) (b 2)); draw = draw 0 1 2; overrides = [] }
    ∷ record { auction = filed t1 (card (b 0) (line 2 0 0 1)) (card (b 1) (b 1)) (card (b 0) (b 2)); draw = draw 0 1 2; overrides = [] }
    ∷ record { auction = filed t2 (card (line 1 0 0 1) (b 0)) (card (b 1) (b 1)) (card (b 0) (b 2)); draw = draw 0 1 2; overrides = [] }
    ∷ []

-- lots of two bidders are kept in part, and then outbid in part
unfoldable pub rounds_of_lots : List Round
rounds_of_lots =
    record { auction = filed (opened W) (card (b 6) (b 0)) (card (b 6) (b 3)) (card (b 3) (b 3)); draw = draw 0 1 2; overrides = [] }
    ∷ record { auction = filed l1 (card (withdraws lots0) (b 0)) (card (withdraws lots1) (b 3)) (card (b 3) (b 3)); draw = draw 1 0 2; overrides = [] }
    ∷ record { auction = filed l2 (card (b 0) (b 0)) (card (b 0) (b 3)) (card (line 6 0 0 1) (b 0)); draw = draw 0 1 2; overrides = [] }
    ∷ []

pub offers_worked :
    -- bid 1, then that 1 withdrawn at 980: one ever offered
    (on_offer rounds_of_s 2 0 ≡ offer 0 970 0 1000 1 980 1)
    -- 1 bid in two rounds, then withdrawn at 790: one ever offered
    × (on_offer rounds_of_s 2 1 ≡ offer 0 776 0 800 1 790 1)
    -- 2 bid, then 1 of them switched away, 1 bid on
    × (on_offer rounds_of_s 1 0 ≡ offer 1 970 1 1000 0 0 2)
    -- 1 bid, then 1 more, then one of these withdrawn
    × (on_offer rounds_of_s 1 1 ≡ offer 1 776 0 800 1 790 2)
    -- 2 bid, both switched away, 1 bid anew: the one switch that was denied is deemed bid with it
    × (on_offer rounds_of_t 0 0 ≡ offer 2 970 0 1000 0 0 3)
unfolding rounds_of_s rounds_of_t opened with_card all_up_to from set_in first_used keep_loop
offers_worked = (refl, refl, refl, refl, refl)

-- of an initial eligibility of 3 each: given up in the three rounds, and withdrawn
pub given_up_worked :
    -- bidder 0 bids 2, then withdraws one of them, and is awarded the other
    (in_rounds (given_up 0) rounds_of_s ≡ 2) × (in_rounds (withdrawn_in 0) rounds_of_s ≡ 1)
    -- bidder 1 bids 3, switches one, withdraws one, and is awarded two
    × (in_rounds (given_up 1) rounds_of_s ≡ 1) × (in_rounds (withdrawn_in 1) rounds_of_s ≡ 1)
    -- bidder 2 bids 2 and withdraws both, which are retained
    × (in_rounds (given_up 2) rounds_of_s ≡ 3) × (in_rounds (withdrawn_in 2) rounds_of_s ≡ 2)
unfolding rounds_of_s opened with_card set_in from
given_up_worked = (refl, refl, refl, refl, refl, refl)

-- what was withdrawn in round 2 stays on offer in its lots, kept or not
pub lots_worked :
    (on_offer rounds_of_lots 0 0 ≡ offer_of 0 970 0 1000 lots0 6)
    × (on_offer rounds_of_lots 1 0 ≡ offer_of 0 970 0 1000 lots1 6)
    -- 3 bid, then 3 more by a switch; on the other product those 3
    × (on_offer rounds_of_lots 2 0 ≡ offer 6 970 0 1000 0 0 6)
    × (on_offer rounds_of_lots 2 1 ≡ offer 0 753 3 776 0 0 3)
unfolding rounds_of_lots opened with_card all_up_to from set_in first_used keep_loop
lots_worked = (refl, refl, refl, refl)

-- a lot of 2 at 975 backs 2 at 975 where 975 is paid, and one where more is; nothing needs no offer
pub lot_backs : LotOffered (lot 2 975) (lot 2 975) 975 × LotOffered (lot 2 975) (lot 1 975) 980 × LotOffered (lot 2 975) no_lot 970
lot_backs = (
  record { few = omega arith; own_price = λ h. refl; exit_paid = λ h. omega arith },
  record { few = omega arith; own_price = λ h. refl; exit_paid = λ h. omega arith },
  record { few = omega arith; own_price = λ h. absurd (let x : ⊥ = omega arith in x); exit_paid = λ h. absurd (let x : ⊥ = omega arith in x) },
)

-- it backs neither 3, nor one at another lot's price, nor one that is paid less
pub lot_backs_no_more :
    (LotOffered (lot 2 975) (lot 3 975) 980 → ⊥) × (LotOffered (lot 2 975) (lot 1 980) 980 → ⊥) × (LotOffered (lot 2 975) (lot 1 975) 974 → ⊥)
lot_backs_no_more = (
  λ o. let x = o.few in omega arith,
  λ o. let x = o.own_price (omega arith) in omega arith,
  λ o. let x = o.exit_paid (omega arith) in omega arith,
)
