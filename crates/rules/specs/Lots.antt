-- Document 02, request 2: "up to four lots, each a count of 8 bits and a price of 17". Withdrawn on a card, retained in a record.
-- Assumes nothing.
use Rattle.std.specs.Prelude.{◌≡◌, Bool, true, ◌&&◌, cond, ℕ, ◌+◌, ◌-◌, ◌≤◌, ◌<◌, leb, ltb, eqb}
use Rattle.rules.specs.declared.Lot.{Lot}
use Rattle.rules.specs.declared.Lots.{Lots}
use Rattle.rules.specs.Units.{tranches}

abbrev pub lot : ℕ → ℕ → Lot
lot n x = record { count = tranches n; exit = x }

abbrev pub no_lot : Lot
no_lot = lot 0 0

abbrev pub count_of : Lot → ℕ
count_of l = l.count.0

-- "used lots": those with a count
abbrev pub is_used : Lot → Bool
is_used l = ltb 0 (count_of l)

abbrev pub lots : Lot → Lot → Lot → Lot → Lots
lots w x y z = record { one = w; two = x; three = y; four = z }

abbrev pub no_lots : Lots
no_lots = lots no_lot no_lot no_lot no_lot

-- n tranches at one price, in the first lot; no lot where there are none
abbrev pub one_lot : ℕ → ℕ → Lots
one_lot n x = lots (lot n (cond (ltb 0 n) x 0)) no_lot no_lot no_lot

-- the lot at a place, 0 to 3, and the lots with another there
abbrev pub lot_at : Lots → ℕ → Lot
lot_at l i = cond (eqb i 0) l.one (cond (eqb i 1) l.two (cond (eqb i 2) l.three l.four))

abbrev pub put : Lots → ℕ → Lot → Lots
put l i v =
    cond (eqb i 0) (lots v l.two l.three l.four)
    (cond (eqb i 1) (lots l.one v l.three l.four)
    (cond (eqb i 2) (lots l.one l.two v l.four) (lots l.one l.two l.three v)))

-- "the sum of lot counts", over all four, also behind a gap
abbrev pub total : Lots → ℕ
total l = count_of l.one + count_of l.two + count_of l.three + count_of l.four

-- the place of the first used lot and of the last
unfoldable pub first_used : Lots → ℕ
first_used l = cond (is_used l.one) 0 (cond (is_used l.two) 1 (cond (is_used l.three) 2 3))

unfoldable pub last_used : Lots → ℕ
last_used l = cond (is_used l.four) 3 (cond (is_used l.three) 2 (cond (is_used l.two) 1 0))

-- prices rise from lot to lot, so that the first used lot's is the lowest and the last one's the highest (LotLaws: first-lowest,
-- last-highest)
abbrev pub lowest : Lots → ℕ
lowest l = (lot_at l (first_used l)).exit

abbrev pub highest : Lots → ℕ
highest l = (lot_at l (last_used l)).exit

-- ---- 12: "each price, the order and the zero lots"

-- the first lot: used, or zero
abbrev pub leads : Lot → Bool
leads x = cond (is_used x) true (eqb x.exit 0)

-- "Prices strictly rise, used lots come first, unused ones are zero": the lot y after the lot x
abbrev pub follows : Lot → Lot → Bool
follows x y = cond (is_used y) (is_used x && ltb x.exit y.exit) (eqb y.exit 0)

unfoldable pub in_order : Lots → Bool
in_order l = leads l.one && (follows l.one l.two && (follows l.two l.three && follows l.three l.four))

-- p < x <= q where it is used
abbrev pub exit_fits : ℕ → ℕ → Lot → Bool
exit_fits p q l = cond (is_used l) (ltb p l.exit && leb l.exit q) true

unfoldable pub exits_fit : ℕ → ℕ → Lots → Bool
exits_fit p q l =
    in_order l && (exit_fits p q l.one && (exit_fits p q l.two && (exit_fits p q l.three && exit_fits p q l.four)))

abbrev pub lot_zero : Lot → Bool
lot_zero l = eqb (count_of l) 0 && eqb l.exit 0

abbrev pub lots_zero : Lots → Bool
lots_zero l = lot_zero l.one && (lot_zero l.two && (lot_zero l.three && lot_zero l.four))

-- the same as facts

pub record Follows (x y : Lot) : Type 0 where
  pub unused : count_of y ≤ 0 → y.exit ≡ 0
  pub after : 0 < count_of y → 0 < count_of x
  pub rises : 0 < count_of y → x.exit < y.exit

pub record Ordered (l : Lots) : Type 0 where
  pub leads : count_of l.one ≤ 0 → l.one.exit ≡ 0
  pub second : Follows l.one l.two
  pub third : Follows l.two l.three
  pub fourth : Follows l.three l.four

abbrev pub ExitFits : ℕ → ℕ → Lot → Type 0
ExitFits p q l = 0 < count_of l → (p < l.exit) × (l.exit ≤ q)

pub record ExitsFit (p q : ℕ) (l : Lots) : Type 0 where
  pub order : Ordered l
  pub one : ExitFits p q l.one
  pub two : ExitFits p q l.two
  pub three : ExitFits p q l.three
  pub four : ExitFits p q l.four

-- ---- one tranche more or less

-- one less; the price stays, so that what is left of a card's lots stands beside them
abbrev pub fewer : Lot → Lot
fewer l = lot (count_of l - 1) l.exit

-- "Keeping takes the lowest price first": one less in the first used lot
abbrev pub take_first : Lots → Lots
take_first l = put l (first_used l) (fewer (lot_at l (first_used l)))

-- one more in the lot at a place, at its price
abbrev pub retain_at : Lots → ℕ → ℕ → Lots
retain_at l i x = put l i (lot (count_of (lot_at l i) + 1) x)

-- "outbidding the highest": one less in the last used lot, whose price is 0 where none is left
abbrev pub outbid_lot : Lot → Lot
outbid_lot l = cond (ltb 1 (count_of l)) (fewer l) no_lot

abbrev pub outbid_last : Lots → Lots
outbid_last l = put l (last_used l) (outbid_lot (lot_at l (last_used l)))

-- ---- the record's lots are a beginning of the card's: the card's lots c, what is left of them, l, and what is retained, r

-- one lot, place for place
pub record Part (c l r : Lot) : Type 0 where
  pub whole : count_of l + count_of r ≡ count_of c
  pub price : l.exit ≡ c.exit
  pub unkept : count_of r ≤ 0 → r.exit ≡ 0
  pub kept : 0 < count_of r → r.exit ≡ c.exit

-- of a later lot something is retained only where nothing of the lot before it is left
abbrev pub Spent : Lot → Lot → Type 0
Spent l r = 0 < count_of r → count_of l ≤ 0

-- the first lots, all whole but the last of them
pub record Beginning (c l r : Lots) : Type 0 where
  pub first : Part c.one l.one r.one
  pub second : Part c.two l.two r.two
  pub third : Part c.three l.three r.three
  pub fourth : Part c.four l.four r.four
  pub spent_first : Spent l.one r.two
  pub spent_second : Spent l.two r.three
  pub spent_third : Spent l.three r.four

-- ---- what keeping and outbidding leave of lots: in each place no more, at the same price where it is used

pub record Within (x y : Lot) : Type 0 where
  pub few : count_of y ≤ count_of x
  pub price : 0 < count_of y → y.exit ≡ x.exit

pub record AllWithin (x y : Lots) : Type 0 where
  pub one : Within x.one y.one
  pub two : Within x.two y.two
  pub three : Within x.three y.three
  pub four : Within x.four y.four
