-- Document 02, request 11: four quiet rounds in a row in setting T, with 3, 2, 1 and 0 denied switches standing after them, computed over the
-- definitions. Assumes nothing.
use Rattle.std.specs.Prelude.{refl, List, [], ◌∷◌, ℕ, replicate}
use Rattle.rules.specs.declared.Line.{Line}
use Rattle.rules.specs.declared.Record.{Record}
use Rattle.rules.specs.declared.Auction.{Auction}
use Rattle.rules.specs.Count.{all_up_to, from}
use Rattle.rules.specs.Answers.{bids_open, closed, stopped}
use Rattle.rules.specs.Bits.{set_in}
use Rattle.rules.specs.Lots.{first_used, last_used, in_order, exits_fit}
use Rattle.rules.specs.Parts.{lane, no_lane, seat, no_seat, no_cards, auction}
use Rattle.rules.specs.Bid.{judged}
use Rattle.rules.specs.Keep.{keep_loop}
use Rattle.rules.specs.Outbid.{deemed_up_to, outbid_loop}
use Rattle.rules.specs.Round.{calculated}
use Rattle.rules.specs.Legal.{stands}
use Rattle.rules.specs.Calls.{opened, with_card}
use Rattle.starred.specs.Cases.{T, book, state, entry, line, g, b, card, draw, Case, round, Holds, All}

-- tranches switched to a product, and denied switches on one
abbrev pub s : ℕ → Line
s n = line n 0 0 1

abbrev d : ℕ → Record
d n = entry 0 n 0 0

-- rounds 2 and 3: product 1 has ticked, and then product 0
abbrev pub q1 : Auction
q1 = state T bids_open 2 1000 970 1000 1000 (book (g 0) (g 2) (g 1) (g 1) (g 0) (g 1)) 0

abbrev pub q2 : Auction
q2 = state T bids_open 3 970 970 1000 1000 (book (g 0) (d 2) (g 2) (g 0) (g 1) (g 0)) 0

-- at the prices of round 3: phase and round, records, free eligibility of bidders 0 and 1
abbrev still : ℕ → ℕ → List Record → ℕ → ℕ → Auction
still phase n rs x y =
    auction phase n T.terms (lane 2 2 1000 970 1000 0 ∷ lane 2 2 1000 970 1000 0 ∷ replicate 6 no_lane)
    (seat 3 x ∷ seat 3 y ∷ seat 3 0 ∷ replicate 29 no_seat) T.decrements rs no_cards

abbrev pub q3 : Auction
q3 = still bids_open 4 (book (g 0) (d 1) (d 2) (g 0) (g 0) (g 1)) 1 0

abbrev pub q4 : Auction
q4 = still bids_open 5 (book (g 1) (d 1) (d 1) (g 0) (g 0) (g 1)) 0 1

abbrev pub q5 : Auction
q5 = still bids_open 6 (book (g 1) (g 0) (d 1) (g 1) (g 0) (g 1)) 1 0

abbrev six : List Record
six = book (g 2) (g 0) (g 0) (g 1) (g 0) (g 1)

abbrev pub q6 : Auction
q6 = still bids_open 7 six 0 1

-- the same in the last round
abbrev last : Auction
last = still bids_open 4095 six 0 1

-- bidder 1 has bid its f on product 0
abbrev seven : List Record
seven = book (g 2) (g 0) (g 1) (g 1) (g 0) (g 1)

abbrev q7 : Auction
q7 = state T bids_open 8 941 970 970 1000 seven 0

unfoldable pub quiet : List Case
quiet =
    -- round 1: (0,2) (1,1) (0,1)
    round (opened T) (card (b 0) (b 2)) (card (b 1) (b 1)) (card (b 0) (b 1)) (draw 0 1 2) q1 (1 ∷ 4 ∷ []) 2 0 0
    -- round 2: all switch to product 0, and bidder 0's two switches are denied
    ∷ round q1 (card (s 2) (b 0)) (card (s 2) (b 0)) (card (s 1) (b 0)) (draw 0 1 2) q2 (3 ∷ 2 ∷ []) 1 2 0
    -- round 3: bidders 1 and 2 switch back; bidder 1's two switches are denied, and bidder 2's outbids one of bidder 0's: f = 1, and no price falls
    ∷ round q2 (card (b 0) (b 0)) (card (b 0) (s 2)) (card (b 0) (s 1)) (draw 0 1 2) q3 (2 ∷ 2 ∷ []) 1 2 1
    -- rounds 4 to 6: each bids its f where the other has a denied switch, which is outbid and becomes the other's f
    ∷ round q3 (card (b 1) (b 0)) (card (b 0) (b 0)) (card (b 0) (b 1)) (draw 0 1 2) q4 (2 ∷ 2 ∷ []) 1 0 1
    ∷ round q4 (card (b 1) (b 0)) (card (b 0) (b 1)) (card (b 0) (b 1)) (draw 0 1 2) q5 (2 ∷ 2 ∷ []) 1 0 1
    ∷ round q5 (card (b 2) (b 0)) (card (b 0) (b 1)) (card (b 0) (b 1)) (draw 0 1 2) q6 (2 ∷ 2 ∷ []) 1 0 1
    -- round 7, where no denied switch is left: a price falls,
    ∷ round q6 (card (b 2) (b 0)) (card (b 1) (b 1)) (card (b 0) (b 1)) (draw 0 1 2) q7 (3 ∷ 2 ∷ []) 1 0 0
    -- or f lapses and the auction closes,
    ∷ round q6 (card (b 2) (b 0)) (card (b 0) (b 1)) (card (b 0) (b 1)) (draw 0 1 2) (still closed 7 six 0 0) (2 ∷ 2 ∷ []) 0 0 0
    -- or it was round 4,095, and the auction stops
    ∷ round last (card (b 2) (b 0)) (card (b 1) (b 1)) (card (b 0) (b 1)) (draw 0 1 2) (still stopped 4095 seven 0 0) (3 ∷ 2 ∷ []) 1 0 0
    ∷ []

pub quiet_hold : All quiet
unfolding Holds All quiet all_up_to from set_in first_used last_used in_order exits_fit judged keep_loop deemed_up_to outbid_loop calculated stands opened with_card
quiet_hold = ((refl, refl, refl, refl, refl, refl), ((refl, refl, refl, refl, refl, refl), ((refl, refl, refl, refl, refl, refl), ((refl, refl, refl, refl, refl, refl), ((refl, refl, refl, refl, refl, refl), ((refl, refl, refl, refl, refl, refl), ((refl, refl, refl, refl, refl, refl), ((refl, refl, refl, refl, refl, refl), ((refl, refl, refl, refl, refl, refl), tt)))))))))
