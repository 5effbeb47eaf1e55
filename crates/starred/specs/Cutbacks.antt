-- Document 02, request 3: cutbacks as one table, computed over the definitions, beside the starred cases. Assumes nothing.
use Rattle.std.specs.Prelude.{◌≡◌, refl, Bool, true, false, List, [], ◌∷◌, ℕ, replicate}
use Rattle.rules.specs.declared.Tranches.{Tranches}
use Rattle.rules.specs.declared.Setup.{Setup}
use Rattle.rules.specs.declared.Auction.{Auction}
use Rattle.rules.specs.Count.{all_up_to, from}
use Rattle.rules.specs.Units.{tranches}
use Rattle.rules.specs.Answers.{bids_open, stopped}
use Rattle.rules.specs.Bits.{set_in}
use Rattle.rules.specs.Lots.{first_used, last_used, in_order, exits_fit}
use Rattle.rules.specs.Settings.{item}
use Rattle.rules.specs.Held.{held, ticked, excess}
use Rattle.rules.specs.Bid.{judged}
use Rattle.rules.specs.Keep.{keep_loop}
use Rattle.rules.specs.Outbid.{deemed_up_to, outbid_loop}
use Rattle.rules.specs.Round.{calculated}
use Rattle.rules.specs.Cutback.{may_cut, revised, reduced, cut_back, suggested_volume, suggested_number}
use Rattle.rules.specs.Legal.{stands}
use Rattle.rules.specs.Calls.{opened, with_card}
use Rattle.starred.specs.Cases.{Case, Holds, settings, book, state, entry, line, g, b, card, draw}
use Rattle.starred.specs.Cases.Case.{round}

-- ---- how a row is written

-- of two products
abbrev two : ℕ → ℕ → List Tranches
two x y = tranches x ∷ tranches y ∷ replicate 6 (tranches 0)

pub data Cut : Type 0 where
  -- before; revised targets and caps; after, with its held tranches, which products then tick, and its excess
  cut : Auction → List Tranches → List Tranches → Auction → List ℕ → List Bool → ℕ → Cut
  -- before; revised targets and caps that are refused
  refused : Auction → List Tranches → List Tranches → Cut
  -- a round before the cutback or after it, as in the starred table
  played : Case → Cut
  -- tranches bid, a ratio in hundredths, the volume
  suggested : ℕ → ℕ → ℕ → Cut

-- ---- what a row says

unfoldable pub Stated : Cut → Type 0
Stated (cut a targets caps after hs ticks e) =
    (stands a ≡ true)
    × (may_cut a targets caps ≡ true)
    × (cut_back a targets caps ≡ after)
    × (stands after ≡ true)
    × (held after.records 3 0 ∷ held after.records 3 1 ∷ [] ≡ hs)
    × (ticked after 0 ∷ ticked after 1 ∷ [] ≡ ticks)
    × (excess after ≡ e)
Stated (refused a targets caps) = (stands a ≡ true) × (may_cut a targets caps ≡ false)
Stated (played c) = Holds c
Stated (suggested bid ratio v) = (suggested_number bid ratio ≡ 0) × (suggested_volume bid ratio ≡ v)

unfoldable pub AllStated : List Cut → Type 0
AllStated [] = Unit {0}
AllStated (c ∷ cs) = Stated c × AllStated cs

-- ---- the states that the rows go through

-- setting S with room for a cutback: the statewide cap is 3
abbrev U : Setup
U = settings (item 3 3 1000) (item 2 2 800) 3

abbrev u1 : Auction
u1 = state U bids_open 2 970 800 1000 800 (book (g 3) (g 0) (g 1) (g 1) (g 1) (g 1)) 0

-- cut to 2 and 1 with the caps of the targets, and again to caps of 1
abbrev u2 : Auction
u2 = state (settings (item 2 2 1000) (item 1 1 800) 3) bids_open 2 970 776 1000 800 (book (g 2) (g 0) (g 1) (g 1) (g 1) (g 1)) 1

abbrev u3 : Auction
u3 = state (settings (item 2 1 1000) (item 1 1 800) 3) bids_open 2 970 776 1000 800 (book (g 1) (g 0) (g 1) (g 1) (g 1) (g 1)) 2

-- the targets cut alone: no cap takes effect
abbrev u4 : Auction
u4 = state (settings (item 3 3 1000) (item 1 1 800) 3) bids_open 2 970 776 1000 800 (book (g 3) (g 0) (g 1) (g 1) (g 1) (g 1)) 0

-- a product just above its target, and the cap that takes the excess away
abbrev v1 : Auction
v1 = state U bids_open 2 990 800 1000 800 (book (g 3) (g 0) (g 1) (g 1) (g 0) (g 1)) 0

abbrev v2 : Auction
v2 = state (settings (item 3 2 1000) (item 2 2 800) 3) bids_open 2 1000 800 1000 800 (book (g 2) (g 0) (g 1) (g 1) (g 0) (g 1)) 1

-- the second product starts at 1
abbrev w1 : Auction
w1 = state (settings (item 3 3 1000) (item 2 2 1) 3) bids_open 2 970 1 1000 1 (book (g 3) (g 0) (g 1) (g 1) (g 1) (g 1)) 0

abbrev w2 : Auction
w2 = state (settings (item 2 2 1000) (item 1 1 1) 3) stopped 2 1000 1 1000 1 (book (g 2) (g 0) (g 1) (g 1) (g 1) (g 1)) 1

-- setting T with a statewide cap of 3: only the first product ticks
abbrev x1 : Auction
x1 = state (settings (item 2 2 1000) (item 2 2 1000) 3) bids_open 2 970 1000 1000 1000 (book (g 0) (g 2) (g 2) (g 0) (g 1) (g 0)) 0

abbrev X : Setup
X = settings (item 2 2 1000) (item 1 1 1000) 3

abbrev x2 : Auction
x2 = state X bids_open 2 970 1000 1000 1000 (book (g 0) (g 1) (g 2) (g 0) (g 1) (g 0)) 1

abbrev x3 : Auction
x3 = state X bids_open 3 970 970 1000 1000 (book (g 0) (g 1) (entry 1 1 0 0) (g 0) (g 0) (g 1)) 0

unfoldable pub cutbacks : List Cut
cutbacks =
    -- round 1 of U: (3,0) (1,1) (1,1): held 5, 2; prices 970, 800; excess 2
    played (round (opened U) (card (b 3) (b 0)) (card (b 1) (b 1)) (card (b 1) (b 1)) (draw 0 1 2) u1 (5 ∷ 2 ∷ []) 2 0 0)
    -- no cap takes effect; the second product ticks by its revised target, 776 from 800
    ∷ cut u1 (two 3 1) (two 3 1) u4 (5 ∷ 2 ∷ []) (true ∷ true ∷ []) 3
    -- bidder 0 is set to the cap of 2 and has f = 1; held 4, 2
    ∷ cut u1 (two 2 1) (two 2 1) u2 (4 ∷ 2 ∷ []) (true ∷ true ∷ []) 4
    -- a second cutback adds to f; the prices are again worked out from the starting prices
    ∷ cut u2 (two 2 1) (two 1 1) u3 (3 ∷ 2 ∷ []) (true ∷ true ∷ []) 4
    -- one that changes no number leaves what it finds
    ∷ cut u3 (two 2 1) (two 1 1) u3 (3 ∷ 2 ∷ []) (true ∷ true ∷ []) 4
    -- a price rises: 990 back to 1,000 where the cap took the excess away; what is left is free eligibility
    ∷ cut v1 (two 3 2) (two 2 2) v2 (3 ∷ 2 ∷ []) (false ∷ false ∷ []) 1
    -- the stop: a product above its revised target starts at 1; stopped in round 2, p = q = starting price on both
    ∷ cut w1 (two 2 1) (two 2 1) w2 (4 ∷ 2 ∷ []) (true ∷ true ∷ []) 4
    -- 20: larger than before; 0; not ranked; a cap above its target; a volume below the statewide cap; a number past the products
    -- in use
    ∷ refused u2 (two 3 1) (two 2 1)
    ∷ refused u2 (two 2 1) (two 3 1)
    ∷ refused u1 (two 3 0) (two 3 0)
    ∷ refused u1 (two 2 1) (two 2 0)
    ∷ refused u1 (two 1 2) (two 1 2)
    ∷ refused u1 (two 2 1) (two 2 2)
    ∷ refused u1 (two 1 1) (two 1 1)
    ∷ refused u1 (tranches 2 ∷ tranches 1 ∷ tranches 1 ∷ replicate 5 (tranches 0)) (two 2 1)
    -- 20: a card is filed; in round 1; in round 3
    ∷ refused (with_card u1 1 (card (b 1) (b 1))) (two 2 1) (two 2 1)
    ∷ refused (opened U) (two 2 1) (two 2 1)
    ∷ refused x3 (two 2 1) (two 2 1)
    -- round 2 on the reduced book: two switches leave the first product, and bidder 1's is denied at 1,000, the starting price
    ∷ cut x1 (two 2 1) (two 2 1) x2 (3 ∷ 1 ∷ []) (true ∷ false ∷ []) 2
    ∷ played (round x2 (card (b 0) (b 1)) (card (b 1) (line 1 0 0 1)) (card (b 0) (line 1 0 0 1)) (draw 0 1 2) x3 (2 ∷ 2 ∷ []) 1 1 0)
    -- "72 at 150 gives 48"
    ∷ suggested 72 150 48
    ∷ suggested 51200 1 5120000
    ∷ []

-- every row is as it says
pub cutbacks_hold : AllStated cutbacks
unfolding Stated AllStated Holds cutbacks all_up_to from set_in first_used last_used in_order exits_fit judged keep_loop deemed_up_to outbid_loop calculated stands opened with_card revised reduced cut_back
cutbacks_hold =
    ((refl, refl, refl, refl, refl, refl), ((refl, refl, refl, refl, refl, refl, refl), ((refl, refl, refl, refl, refl, refl, refl), ((refl, refl, refl, refl, refl, refl, refl), ((refl, refl, refl, refl, refl, refl, refl), ((refl, refl, refl, refl, refl, refl, refl), ((refl, refl, refl, refl, refl, refl, refl), ((refl, refl), ((refl, refl), ((refl, refl), ((refl, refl), ((refl, refl), ((refl, refl), ((refl, refl), ((refl, refl), ((refl, refl), ((refl, refl), ((refl, refl), ((refl, refl, refl, refl, refl, refl, refl), ((refl, refl, refl, refl, refl, refl), ((refl, refl), ((refl, refl), tt))))))))))))))))))))))
