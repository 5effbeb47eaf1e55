-- Document 02, request 2: lots as one table, computed over the definitions, beside the starred cases. Assumes nothing.
use Rattle.std.specs.Prelude.{◌≡◌, refl, true, false, List, [], ◌∷◌, ℕ, replicate}
use Rattle.rules.specs.declared.Lots.{Lots}
use Rattle.rules.specs.declared.Line.{Line}
use Rattle.rules.specs.declared.Record.{Record}
use Rattle.rules.specs.declared.Setup.{Setup}
use Rattle.rules.specs.declared.Auction.{Auction}
use Rattle.rules.specs.Count.{all_up_to, from}
use Rattle.rules.specs.Units.{tranches}
use Rattle.rules.specs.Answers.{bids_open, closed}
use Rattle.rules.specs.Bits.{set_in}
use Rattle.rules.specs.Lots.{lot, no_lot, lots, no_lots, first_used, last_used, in_order, exits_fit}
use Rattle.rules.specs.Card.{line}
use Rattle.rules.specs.Parts.{lane, no_lane, seat, no_seat, row, no_row, table, no_cards, auction}
use Rattle.rules.specs.Settings.{item, no_item}
use Rattle.rules.specs.Held.{entry}
use Rattle.rules.specs.Bid.{judged, bid_on}
use Rattle.rules.specs.Keep.{keep_loop}
use Rattle.rules.specs.Outbid.{deemed_up_to, outbid_loop}
use Rattle.rules.specs.Round.{calculated}
use Rattle.rules.specs.Report.{result_of}
use Rattle.rules.specs.Legal.{stands}
use Rattle.rules.specs.Calls.{opened, with_card}
use Rattle.starred.specs.Cases.{Case, Holds, book, g, b, card, draw}
use Rattle.starred.specs.Cases.Case.{round, result}

-- ---- how a row is written

-- two products, with the targets 8 and 3, and three bidders
abbrev pub W : Setup
W = record {
  terms = record { unit = 0; products = 2; bidders = 3; statewide = tranches 11 };
  item = item 8 8 1000 ∷ item 3 3 800 ∷ replicate 6 no_item;
  eligibility = tranches 9 ∷ tranches 9 ∷ tranches 9 ∷ replicate 29 (tranches 0);
  decrements = table 2 (row 0 100 ∷ row 50 300 ∷ replicate 6 no_row);
}

-- phase and round; the second product's going price and the price before it; the first has 970 and 1,000
abbrev state : ℕ → ℕ → ℕ → ℕ → List Record → Auction
state phase n p q rs =
    auction phase n W.terms
    (lane 8 8 1000 970 1000 0 ∷ lane 3 3 800 p q 0 ∷ replicate 6 no_lane)
    (seat 9 0 ∷ seat 9 0 ∷ seat 9 0 ∷ replicate 29 no_seat)
    W.decrements rs no_cards

-- one lot, two, three
abbrev one : ℕ → ℕ → Lots
one n x = lots (lot n x) no_lot no_lot no_lot

abbrev two : ℕ → ℕ → ℕ → ℕ → Lots
two n x m y = lots (lot n x) (lot m y) no_lot no_lot

abbrev three : ℕ → ℕ → ℕ → ℕ → ℕ → ℕ → Lots
three n x m y k z = lots (lot n x) (lot m y) (lot k z) no_lot

-- retained lots alone; a line that bids nothing and withdraws lots
abbrev r : Lots → Record
r l = entry 0 0 l

abbrev pub w : Lots → Line
w l = line 0 l 0

pub data Lotted : Type 0 where
  -- a round or a result, as in the starred table
  played : Case → Lotted
  -- an auction, a bidder, its card and the number that judging gives, 0 where it is accepted
  judges : Auction → ℕ → List Line → ℕ → Lotted
  -- an auction, a bidder that has filed no card, a product and the line of its default bid
  unfiled : Auction → ℕ → ℕ → Line → Lotted
  -- lots that the second bidder may not retain on the first product: with them the state after round 2 would not stand
  falls : Lots → Lotted

-- ---- the states that the rows go through

abbrev pub l1 : Auction
l1 = state bids_open 2 776 800 (book (g 6) (g 0) (g 6) (g 3) (g 3) (g 3))

-- the lots of the first two bidders on their cards of round 2
abbrev pub lots0 : Lots
lots0 = lots (lot 1 975) (lot 2 980) (lot 1 990) (lot 2 1000)

abbrev pub lots1 : Lots
lots1 = lots (lot 2 975) (lot 1 980) (lot 2 985) (lot 1 995)

-- after round 2, with what the first two bidders retain on the first product; by the draws 1, 0, 2 and 0, 1, 2
abbrev kept : Lots → Lots → Auction
kept k l = state bids_open 3 753 776 (book (r k) (g 0) (r l) (g 3) (g 3) (g 3))

abbrev pub l2 : Auction
l2 = kept (two 1 975 1 980) (two 2 975 1 980)

abbrev l2' : Auction
l2' = kept (two 1 975 2 980) (one 2 975)

-- after round 3, by the draws 0, 1, 2 and 1, 0, 2
abbrev outbid : Lots → Lots → Auction
outbid k l = state closed 3 753 776 (book (r k) (g 0) (r l) (g 3) (g 6) (g 0))

abbrev l3 : Auction
l3 = outbid no_lots (one 2 975)

abbrev l3' : Auction
l3' = outbid (one 1 975) (one 1 975)

-- ---- what a row says

unfoldable pub Told : Lotted → Type 0
Told (played c) = Holds c
Told (judges a i ls n) = (stands a ≡ true) × (judged a i ls ≡ n)
Told (unfiled a i p l) = bid_on a i p ≡ l
Told (falls l) = stands (kept (two 1 975 1 980) l) ≡ false

unfoldable pub AllTold : List Lotted → Type 0
AllTold [] = Unit {0}
AllTold (c ∷ cs) = Told c × AllTold cs

unfoldable pub lotted : List Lotted
lotted =
    -- round 1: (6,0) (6,3) (3,3): held 15, 6; prices 970, 776; excess 10
    played (round (opened W) (card (b 6) (b 0)) (card (b 6) (b 3)) (card (b 3) (b 3)) (draw 0 1 2) l1 (15 ∷ 6 ∷ []) 10 0 0)
    -- "Keeping takes the lowest price first across all lots": five are kept, all three at 975, then of three at 980 two; the draw 1, 0, 2
    -- gives the tie to bidder 1, whose one goes before bidder 0's
    ∷ played (round l1 (card (w lots0) (b 0)) (card (w lots1) (b 3)) (card (b 3) (b 3)) (draw 1 0 2) l2 (8 ∷ 6 ∷ []) 3 5 0)
    -- the draw 0, 1, 2: bidder 0's two at 980 go first
    ∷ played (round l1 (card (w lots0) (b 0)) (card (w lots1) (b 3)) (card (b 3) (b 3)) (draw 0 1 2) l2' (8 ∷ 6 ∷ []) 3 5 0)
    -- "outbidding the highest": bidder 2 switches three, and three are outbid, those at 980, then one at 975, by the draw bidder 0's; a lot that
    -- is used up has no price
    ∷ played (round l2 (card (b 0) (b 0)) (card (b 0) (b 3)) (card (line 6 no_lots 1) (b 0)) (draw 0 1 2) l3 (8 ∷ 3 ∷ []) 0 0 3)
    -- both of bidder 0's at 980, then one of bidder 1's two at 975, by the draw 1, 0, 2; of that lot one is left, at its price
    ∷ played (round l2' (card (b 0) (b 0)) (card (b 0) (b 3)) (card (line 6 no_lots 1) (b 0)) (draw 1 0 2) l3' (8 ∷ 3 ∷ []) 0 0 3)
    -- the result has the sum of the lots, and the price looks at all of them
    ∷ played (result l3 (0 ∷ 0 ∷ 2 ∷ 3 ∷ 6 ∷ 0 ∷ []) (975 ∷ 753 ∷ []))
    ∷ played (result (outbid (two 1 975 1 980) no_lots) (2 ∷ 0 ∷ 0 ∷ 3 ∷ 6 ∷ 0 ∷ []) (980 ∷ 753 ∷ []))
    -- "The default bid is one lot at q": on a product that ticked; no lot where g = 0; none where b = g
    ∷ unfiled l1 0 0 (w (one 6 1000))
    ∷ unfiled l1 0 1 (b 0)
    ∷ unfiled l2 2 0 (b 3)
    -- accepted: four lots; the prices next to p and at q
    ∷ judges l1 0 (card (w lots0) (b 0)) 0
    ∷ judges l1 0 (card (w (two 1 971 5 1000)) (b 0)) 0
    -- 12: a gap; a gap before the first; equal prices; falling prices; a price set on an unused lot, behind a used one and alone
    ∷ judges l1 0 (card (w (three 2 975 0 0 4 990)) (b 0)) 12
    ∷ judges l1 0 (card (w (two 0 0 6 990)) (b 0)) 12
    ∷ judges l1 0 (card (w (two 3 980 3 980)) (b 0)) 12
    ∷ judges l1 0 (card (w (two 3 990 3 980)) (b 0)) 12
    ∷ judges l1 0 (card (w (two 6 980 0 990)) (b 0)) 12
    ∷ judges l1 0 (card (line 6 (one 0 980) 0) (b 0)) 12
    -- 12: a price at p; one above q, in the last of four lots
    ∷ judges l1 0 (card (w (two 1 970 5 980)) (b 0)) 12
    ∷ judges l1 0 (card (w (lots (lot 1 975) (lot 1 980) (lot 1 990) (lot 3 1001))) (b 0)) 12
    -- 11: the sum is too small; too large, with what is behind a gap; above 255, where it is counted whole: 262 is not 6
    ∷ judges l1 0 (card (w (two 1 975 4 980)) (b 0)) 11
    ∷ judges l1 0 (card (w (three 3 975 0 0 4 990)) (b 0)) 11
    ∷ judges l1 0 (card (w (two 255 975 7 980)) (b 0)) 11
    -- 11 goes before 12: of one product; of the second before 12 of the first
    ∷ judges l1 0 (card (w (two 255 980 7 975)) (b 0)) 11
    ∷ judges l1 1 (card (w (two 3 990 3 980)) (w (two 2 790 2 795))) 11
    -- retained lots are "ordered as on a card, which standing requires": in the place of 2 at 975 and 1 at 980
    ∷ falls (three 2 975 0 0 1 980)
    ∷ falls (two 2 980 1 975)
    ∷ falls (two 2 980 1 980)
    ∷ falls (two 3 975 0 980)
    ∷ falls (two 2 970 1 980)
    ∷ falls (two 2 975 1 1001)
    ∷ []

-- every row is as it says
pub lotted_hold : AllTold lotted
unfolding Told AllTold Holds lotted all_up_to from set_in first_used last_used in_order exits_fit judged keep_loop deemed_up_to outbid_loop calculated result_of stands opened with_card
lotted_hold =
    ((refl, refl, refl, refl, refl, refl), ((refl, refl, refl, refl, refl, refl), ((refl, refl, refl, refl, refl, refl), ((refl, refl, refl, refl, refl, refl), ((refl, refl, refl, refl, refl, refl), ((refl, refl), ((refl, refl), (refl, (refl, (refl, ((refl, refl), ((refl, refl), ((refl, refl), ((refl, refl), ((refl, refl), ((refl, refl), ((refl, refl), ((refl, refl), ((refl, refl), ((refl, refl), ((refl, refl), ((refl, refl), ((refl, refl), ((refl, refl), ((refl, refl), (refl, (refl, (refl, (refl, (refl, (refl, tt)))))))))))))))))))))))))))))))
