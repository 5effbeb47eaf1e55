-- "Cases": those marked * as one table, computed over the definitions. Assumes nothing.
use Rattle.std.specs.Prelude.{◌≡◌, refl, true, List, [], ◌∷◌, ◌++◌, ℕ, ◌+◌, get_or, replicate}
use Rattle.rules.specs.declared.Line.{Line}
use Rattle.rules.specs.declared.Record.{Record}
use Rattle.rules.specs.declared.Item.{Item}
use Rattle.rules.specs.declared.Setup.{Setup}
use Rattle.rules.specs.declared.Auction.{Auction}
use Rattle.rules.specs.declared.Calculated.{Calculated}
use Rattle.rules.specs.Count.{all_up_to, from, list_of}
use Rattle.rules.specs.Units.{tranches, amount_of, quote}
use Rattle.rules.specs.Answers.{bids_open, closed}
use Rattle.rules.specs.Bits.{set_in}
use Rattle.rules.specs.Lots.{first_used, last_used, in_order, exits_fit, one_lot}
use Rattle.rules.specs.Card.{line as line_of, no_line}
use Rattle.rules.specs.Parts.{lane, no_lane, seat, no_seat, row, no_row, table, no_cards, auction}
use Rattle.rules.specs.Settings.{item, no_item, target_of, cap_of, start_of}
use Rattle.rules.specs.Held.{entry as entry_of, nothing, held, excess}
use Rattle.rules.specs.Bid.{judged}
use Rattle.rules.specs.Keep.{keep_loop}
use Rattle.rules.specs.Outbid.{deemed_up_to, outbid_loop}
use Rattle.rules.specs.Price.{fallen}
use Rattle.rules.specs.Round.{calculated}
use Rattle.rules.specs.Report.{range, range_of, result_of}
use Rattle.rules.specs.Legal.{stands}
use Rattle.rules.specs.Calls.{opened, with_card}

-- ---- how a row is written

-- two products and three bidders: the products with their target, cap and starting price, and the statewide cap
abbrev pub settings : Item → Item → ℕ → Setup
settings x y all = record {
  terms = record { unit = 0; products = 2; bidders = 3; statewide = tranches all };
  item = x ∷ y ∷ replicate 6 no_item;
  eligibility = tranches 3 ∷ tranches 3 ∷ tranches 3 ∷ replicate 29 (tranches 0);
  decrements = table 2 (row 0 100 ∷ row 50 300 ∷ replicate 6 no_row);
}

abbrev pub book : Record → Record → Record → Record → Record → Record → List Record
book a b c d e f = a ∷ b ∷ replicate 6 nothing ++ c ∷ d ∷ replicate 6 nothing ++ e ∷ f ∷ replicate 238 nothing

-- phase and round; going prices; prices before their latest fall; records; the first bidder's free eligibility
abbrev pub state : Setup → ℕ → ℕ → ℕ → ℕ → ℕ → ℕ → List Record → ℕ → Auction
state t phase round p₀ p₁ q₀ q₁ rs f =
    auction phase round t.terms
    (lane (target_of t 0) (cap_of t 0) (start_of t 0) p₀ q₀ 0 ∷ lane (target_of t 1) (cap_of t 1) (start_of t 1) p₁ q₁ 0 ∷ replicate 6 no_lane)
    (seat 3 f ∷ seat 3 0 ∷ seat 3 0 ∷ replicate 29 no_seat)
    t.decrements rs no_cards

-- a record and a card's line as document 01 has them: withdrawals at one exit price, which are one lot
abbrev pub entry : ℕ → ℕ → ℕ → ℕ → Record
entry g d r x = entry_of g d (one_lot r x)

abbrev pub line : ℕ → ℕ → ℕ → ℕ → Line
line b w x k = line_of b (one_lot w x) k

-- tranches at the going price, and nothing withdrawn or switched
abbrev pub g : ℕ → Record
g n = entry n 0 0 0

abbrev pub b : ℕ → Line
b n = line n 0 0 0

abbrev pub card : Line → Line → List Line
card x y = x ∷ y ∷ replicate 6 no_line

abbrev pub filed : Auction → List Line → List Line → List Line → Auction
filed a x y z = with_card (with_card (with_card a 0 x) 1 y) 2 z

abbrev pub figures : Auction → ℕ → ℕ → Calculated
figures z k o = record { auction = z; kept = k; outbid = o }

abbrev award_of : Auction → ℕ → ℕ
award_of a k = (get_or (result_of a).tranches k (tranches 0)).0

abbrev paid_for : Auction → ℕ → ℕ
paid_for a p = amount_of (get_or (result_of a).prices p (quote 0 0)).price

pub data Case : Type 0 where
  -- before; the three bidders' cards; the draw; after, with its held tranches, its excess and the tranches kept and outbid
  round : Auction → List Line → List Line → List Line → List ℕ → Auction → List ℕ → ℕ → ℕ → ℕ → Case
  -- a closed auction; the awards of the three bidders on each product; the prices
  result : Auction → List ℕ → List ℕ → Case
  -- a price, a decrement, the next price
  next : ℕ → ℕ → ℕ → Case
  -- a total excess supply, and its range
  reported : ℕ → ℕ → ℕ → Case

-- ---- what a row says

unfoldable pub Holds : Case → Type 0
Holds (round a x y z draw after hs e k o) =
    (judged a 0 x ∷ judged a 1 y ∷ judged a 2 z ∷ [] ≡ 0 ∷ 0 ∷ 0 ∷ [])
    × (stands (filed a x y z) ≡ true)
    × (calculated (filed a x y z) draw [] ≡ figures after k o)
    × (stands after ≡ true)
    × (held after.records 3 0 ∷ held after.records 3 1 ∷ [] ≡ hs)
    × (excess after ≡ e)
Holds (result a awards prices) =
    (list_of (λ i. award_of a i) 2 ++ list_of (λ i. award_of a (8 + i)) 2 ++ list_of (λ i. award_of a (16 + i)) 2 ≡ awards)
    × (paid_for a 0 ∷ paid_for a 1 ∷ [] ≡ prices)
Holds (next p decrement x) = fallen p decrement ≡ x
Holds (reported x low high) = range_of x ≡ range low high

unfoldable pub All : List Case → Type 0
All [] = Unit {0}
All (c ∷ cs) = Holds c × All cs

-- ---- the states that the rows go through

abbrev pub S : Setup
S = settings (item 3 3 1000) (item 2 2 800) 5

abbrev pub T : Setup
T = settings (item 2 2 1000) (item 2 2 1000) 4

abbrev pub s1 : Auction
s1 = state S bids_open 2 970 800 1000 800 (book (g 2) (g 0) (g 2) (g 1) (g 1) (g 1)) 0

abbrev pub s2 : Auction
s2 = state S bids_open 3 970 776 1000 800 (book (g 1) (g 0) (g 1) (g 2) (entry 0 0 1 980) (g 1)) 0

abbrev s3 : Auction
s3 = state S closed 3 970 776 1000 800 (book (g 1) (g 0) (g 1) (g 1) (entry 0 0 1 980) (entry 0 0 1 790)) 0

abbrev s3' : Auction
s3' = state S closed 3 970 776 1000 800 (book (g 1) (g 0) (g 1) (entry 1 0 1 790) (entry 0 0 1 980) (g 0)) 0

abbrev pub t1 : Auction
t1 = state T bids_open 2 970 970 1000 1000 (book (g 2) (g 0) (g 1) (g 1) (g 0) (g 2)) 0

abbrev pub t2 : Auction
t2 = state T bids_open 3 970 941 1000 970 (book (entry 0 1 0 0) (g 1) (g 1) (g 1) (g 0) (g 2)) 0

abbrev t3 : Auction
t3 = state T bids_open 4 970 913 1000 941 (book (g 0) (g 1) (g 1) (g 1) (g 1) (g 1)) 1

abbrev t3' : Auction
t3' = state T bids_open 4 941 913 970 941 (book (g 2) (g 0) (g 1) (g 1) (g 0) (g 2)) 0

abbrev pub chain : Auction
chain = state T closed 2 970 970 1000 1000 (book (entry 0 1 0 0) (g 1) (entry 0 0 1 990) (g 0) (g 0) (entry 0 0 1 980)) 0

abbrev pub draw : ℕ → ℕ → ℕ → List ℕ
draw x y z = x ∷ y ∷ z ∷ []

unfoldable pub starred : List Case
starred =
    -- S round 1: (2,0) (2,1) (1,1): held 5, 2; prices 970, 800; excess 2
    round (opened S) (card (b 2) (b 0)) (card (b 2) (b 1)) (card (b 1) (b 1)) (draw 0 1 2) s1 (5 ∷ 2 ∷ []) 2 0 0
    -- S round 2: bidder 2's tranche is kept; prices 970, 776; excess 1
    ∷ round s1 (card (line 1 1 985 0) (b 0)) (card (b 1) (line 2 0 0 1)) (card (line 0 1 980 0) (b 1)) (draw 0 1 2) s2 (3 ∷ 3 ∷ []) 1 1 0
    -- S round 3, draw 2,0,1: bidder 2 keeps it; closed
    ∷ round s2 (card (b 1) (b 0)) (card (b 1) (line 1 1 790 0)) (card (b 0) (line 0 1 790 0)) (draw 2 0 1) s3 (3 ∷ 2 ∷ []) 0 1 0
    ∷ result s3 (1 ∷ 0 ∷ 1 ∷ 1 ∷ 1 ∷ 1 ∷ []) (980 ∷ 790 ∷ [])
    -- the same, draw 1,2,0
    ∷ round s2 (card (b 1) (b 0)) (card (b 1) (line 1 1 790 0)) (card (b 0) (line 0 1 790 0)) (draw 1 2 0) s3' (3 ∷ 2 ∷ []) 0 1 0
    ∷ result s3' (1 ∷ 0 ∷ 1 ∷ 2 ∷ 1 ∷ 0 ∷ []) (980 ∷ 790 ∷ [])
    -- T round 1: (2,0) (1,1) (0,2): prices 970, 970
    ∷ round (opened T) (card (b 2) (b 0)) (card (b 1) (b 1)) (card (b 0) (b 2)) (draw 0 1 2) t1 (3 ∷ 3 ∷ []) 2 0 0
    -- T round 2: one switch of bidder 0 denied at 1,000; held 2, 4; prices 970, 941
    ∷ round t1 (card (b 0) (line 2 0 0 1)) (card (b 1) (b 1)) (card (b 0) (b 2)) (draw 0 1 2) t2 (2 ∷ 4 ∷ []) 2 1 0
    -- then round 3: the denied switch is outbid; bidder 0 has f = 1; prices 970, 913; excess 2
    ∷ round t2 (card (b 0) (b 1)) (card (b 1) (b 1)) (card (line 1 0 0 1) (b 1)) (draw 0 1 2) t3 (2 ∷ 3 ∷ []) 2 0 1
    -- instead round 3: bidder 0 is deemed to bid 2; prices 941, 913
    ∷ round t2 (card (line 1 0 0 1) (b 0)) (card (b 1) (b 1)) (card (b 0) (b 2)) (draw 0 1 2) t3' (3 ∷ 3 ∷ []) 2 0 0
    -- T round 2, chain: three kept, closed
    ∷ round t1 (card (b 0) (line 2 0 0 1)) (card (line 0 1 990 0) (line 0 1 990 0)) (card (b 0) (line 0 2 980 0)) (draw 0 1 2) chain (2 ∷ 2 ∷ []) 0 3 0
    ∷ result chain (1 ∷ 1 ∷ 1 ∷ 0 ∷ 0 ∷ 1 ∷ []) (1000 ∷ 980 ∷ [])
    -- next price
    ∷ next 14250 250 13894
    ∷ next 100 50 99
    ∷ next 299 50 298
    ∷ next 300 50 298
    ∷ next 2 500 1
    -- ranges
    ∷ reported 20 0 20
    ∷ reported 21 21 30
    ∷ reported 40 31 40
    ∷ reported 41 41 45
    ∷ []

-- every starred case of document 01 is as it says
pub starred_hold : All starred
unfolding Holds All starred all_up_to from set_in first_used last_used in_order exits_fit judged keep_loop deemed_up_to outbid_loop calculated result_of stands opened with_card
starred_hold = ((refl, refl, refl, refl, refl, refl), ((refl, refl, refl, refl, refl, refl), ((refl, refl, refl, refl, refl, refl), ((refl, refl), ((refl, refl, refl, refl, refl, refl), ((refl, refl), ((refl, refl, refl, refl, refl, refl), ((refl, refl, refl, refl, refl, refl), ((refl, refl, refl, refl, refl, refl), ((refl, refl, refl, refl, refl, refl), ((refl, refl, refl, refl, refl, refl), ((refl, refl), (refl, (refl, (refl, (refl, (refl, (refl, (refl, (refl, (refl, tt)))))))))))))))))))))
