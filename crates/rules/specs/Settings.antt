-- "Settings." Assumes nothing.
use Rattle.std.specs.Prelude.{Bool, true, ◌&&◌, cond, ℕ, ◌-◌, get_or, leb, ltb, eqb}
use Rattle.rules.specs.declared.Product.{Product}
use Rattle.rules.specs.declared.Settings.{Settings}
use Rattle.rules.specs.declared.Terms.{Terms}
use Rattle.rules.specs.declared.Lane.{Lane}
use Rattle.rules.specs.declared.Decrements.{Decrements}
use Rattle.rules.specs.declared.Auction.{Auction}
use Rattle.rules.specs.declared.Item.{Item}
use Rattle.rules.specs.declared.Setup.{Setup}
use Rattle.rules.specs.Count.{sum_up_to, all_up_to, list_of}
use Rattle.rules.specs.Units.{tranches, unit_number, unit_of, amount_of, quote}
use Rattle.rules.specs.Parts.{tranches_at, lane_at, seat_at, no_row, table}

abbrev pub item : ℕ → ℕ → ℕ → Item
item t c x = record { target = tranches t; cap = tranches c; start = x }

abbrev pub no_item : Item
no_item = item 0 0 0

abbrev pub no_product : Product
no_product = record { target = tranches 0; cap = tranches 0; start = (quote 0 0).price }

-- ---- the settings in the state

abbrev pub item_in : Lane → Item
item_in l = item l.target.0 l.cap.0 l.start

-- all of them as one value
abbrev pub setup : Auction → Setup
setup a = record {
  terms = a.terms;
  item = list_of (λ p. item_in (lane_at a p)) 8;
  eligibility = list_of (λ b. (seat_at a b).initial) 32;
  decrements = a.decrements;
}

abbrev pub target_of : Setup → ℕ → ℕ
target_of t p = (get_or t.item p no_item).target.0

abbrev pub cap_of : Setup → ℕ → ℕ
cap_of t p = (get_or t.item p no_item).cap.0

abbrev pub start_of : Setup → ℕ → ℕ
start_of t p = (get_or t.item p no_item).start

abbrev pub initial_of : Setup → ℕ → ℕ
initial_of t b = tranches_at t.eligibility b

abbrev pub percent_of : Decrements → ℕ → ℕ
percent_of d i = (get_or d.row i no_row).percent

abbrev pub decrement_of : Decrements → ℕ → ℕ
decrement_of d i = (get_or d.row i no_row).decrement.0

abbrev pub between : ℕ → ℕ → ℕ → Bool
between low x high = leb low x && leb x high

-- "ranked by target, never rising"
abbrev pub ranked : Setup → ℕ → Bool
ranked t p = cond (eqb p 0) true (leb (target_of t p) (target_of t (p - 1)))

-- "Target 1 to 200; product load cap 1 to the target; starting price 1 to 99,999"; past the products in use 0
abbrev pub item_within : Setup → ℕ → Bool
item_within t p =
    cond (ltb p t.terms.products)
    (between 1 (target_of t p) 200
    && (ranked t p && (between 1 (cap_of t p) (target_of t p) && between 1 (start_of t p) 99999)))
    (eqb (target_of t p) 0 && (eqb (cap_of t p) 0 && eqb (start_of t p) 0))

-- "each with initial eligibility 1 to the statewide cap"; past the bidders in use 0
abbrev pub bidder_within : Setup → ℕ → Bool
bidder_within t b =
    cond (ltb b t.terms.bidders) (between 1 (initial_of t b) t.terms.statewide.0) (eqb (initial_of t b) 0)

-- "percentages strictly rise, at most 60,000, the first 0"
abbrev pub rising : Decrements → ℕ → Bool
rising d i = cond (eqb i 0) (eqb (percent_of d i) 0) (ltb (percent_of d (i - 1)) (percent_of d i))

-- "a decrement of" the least "to 500 basis points"; past the rows in use 0
abbrev pub row_within : ℕ → Decrements → ℕ → Bool
row_within least d i =
    cond (ltb i d.rows)
    (rising d i && (leb (percent_of d i) 60000 && between least (decrement_of d i) 500))
    (eqb (percent_of d i) 0 && eqb (decrement_of d i) 0)

-- "1 to 8 pairs"
abbrev pub decrements_within : ℕ → Decrements → Bool
decrements_within least d = between 1 d.rows 8 && all_up_to (row_within least d) 8

-- "a decrement of 50 to 500 basis points"
abbrev pub least_decrement : ℕ
least_decrement = 50

-- "1 to 8 products"; "Bidders 1 to 32"; one of the two units
abbrev pub counts_within : Terms → Bool
counts_within t = between 1 t.products 8 && (between 1 t.bidders 32 && leb t.unit 1)

-- "Statewide cap 1 to the sum of targets"
abbrev pub statewide_within : Setup → Bool
statewide_within t = between 1 t.terms.statewide.0 (sum_up_to (target_of t) t.terms.products)

-- "settings within limits"
abbrev pub within_limits : Setup → Bool
within_limits t =
    counts_within t.terms
    && (all_up_to (item_within t) 8
    && (statewide_within t && (all_up_to (bidder_within t) 32 && decrements_within least_decrement t.decrements)))

-- ---- the settings that a manager gives

abbrev pub product_at : Settings → ℕ → Product
product_at s p = get_or s.product p no_product

abbrev pub item_of : Product → Item
item_of p = item p.target.0 p.cap.0 (amount_of p.start)

abbrev pub terms_of : Settings → Terms
terms_of s =
    record { unit = unit_number s.unit; products = s.products; bidders = s.bidders; statewide = s.statewide }

unfoldable pub setup_of : Settings → Setup
setup_of s = record {
  terms = terms_of s;
  item = list_of (λ p. item_of (product_at s p)) 8;
  eligibility = s.eligibility;
  decrements = table s.rows s.row;
}

-- every starting price in use is of the auction's unit
abbrev pub one_unit : Settings → Bool
one_unit s =
    all_up_to (λ p. cond (ltb p s.products) (eqb (unit_of (product_at s p).start) (unit_number s.unit)) true) 8

-- "a setting outside the above" is number 15
abbrev pub settings_fit : Settings → Bool
settings_fit s = one_unit s && within_limits (setup_of s)
