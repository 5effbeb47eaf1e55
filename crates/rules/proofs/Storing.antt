-- What is stored is loaded. Assumes nothing.
use mathlib.Core.Path.{◌≡◌, refl, sym, ◌∙◌, ap, ap₂}
use mathlib.Core.Bool.{Bool, true, false}
use mathlib.Core.List.{List, [], ◌∷◌, ◌++◌}
use Prim.Native.Nat.{ℕ, zero, suc, ◌+◌, ◌-◌, ◌*◌, ◌/◌, ◌%◌, ◌<◌}
use native.Mathlib.Omega.{arith}
use native.Mathlib.Nat.{zero-mul, suc-mul, mul-le-mul_right}
use borrow.Author.Tests.{eqb-true, eqb-false, ltb-true, ltb-false}
use lib.ListN.{length, get_or, length-append, get_or-append}
use lib.Seq.{get_or-append-add}
use lib.Pow.{shr-shr}
use lib.Dec.{eqb, ltb}
use Rattle.rules.specs.declared.Lot.{Lot}
use Rattle.rules.specs.declared.Lots.{Lots}
use Rattle.rules.specs.declared.Line.{Line}
use Rattle.rules.specs.declared.Record.{Record}
use Rattle.rules.specs.declared.Auction.{Auction}
use Rattle.rules.specs.Bits.{Bytes}
use Rattle.rules.specs.Layout.{bytes_up_to, head_bytes, lane_bytes, seat_bytes, row_bytes, lots_bytes, record_bytes, line_bytes, stored, read1, read2, read3, read4, lane_from, seat_from, row_from, lot_read, lots_read, record_from, line_from, loaded, product_width, bidder_width, row_width, lot_width, lots_width, record_width, line_width, products_from, bidders_from, rows_from, records_from, bids_from, state_length, head_width}
use Rattle.rules.specs.Lots.{count_of}
use Rattle.rules.specs.Card.{no_line}
use Rattle.rules.specs.Parts.{no_lane, lane_at, no_seat, seat_at, no_row}
use Rattle.rules.specs.Settings.{percent_of, decrement_of}
use Rattle.rules.specs.Held.{nothing, going_in, denied_in, record_at, free_of}
use Rattle.rules.specs.Bid.{bid_in, price_at, before_at, mark_at}
use Rattle.rules.proofs.Lists.{list_at, list_is, list_long}
use Rattle.rules.specs.Stands.{Long}

-- a lot fits its bytes, and each of four
abbrev pub LotFits : Lot → Type 0
LotFits l = (count_of l < 256) × (l.exit < 16777216)

pub record LotsFit (l : Lots) : Type 0 where
  pub one : LotFits l.one
  pub two : LotFits l.two
  pub three : LotFits l.three
  pub four : LotFits l.four

-- every field fits its bytes
pub record Fits (a : Auction) : Type 0 where
  pub phase : a.phase < 256
  pub unit : a.terms.unit < 256
  pub products : a.terms.products < 256
  pub bidders : a.terms.bidders < 256
  pub rows : a.decrements.rows < 256
  pub round : a.round < 65536
  pub statewide : a.terms.statewide.0 < 65536
  pub filed : a.cards.filed < 4294967296
  pub target : (p : ℕ) → p < 8 → (lane_at a p).target.0 < 256
  pub cap : (p : ℕ) → p < 8 → (lane_at a p).cap.0 < 256
  pub start : (p : ℕ) → p < 8 → (lane_at a p).start < 16777216
  pub price : (p : ℕ) → p < 8 → price_at a p < 16777216
  pub before : (p : ℕ) → p < 8 → before_at a p < 16777216
  pub mark : (p : ℕ) → p < 8 → mark_at a p < 256
  pub initial : (b : ℕ) → b < 32 → (seat_at a b).initial.0 < 65536
  pub free : (b : ℕ) → b < 32 → free_of a b < 65536
  pub percent : (i : ℕ) → i < 8 → percent_of a.decrements i < 65536
  pub decrement : (i : ℕ) → i < 8 → decrement_of a.decrements i < 65536
  pub going : (k : ℕ) → k < 256 → going_in (record_at a.records k) < 256
  pub denied : (k : ℕ) → k < 256 → denied_in (record_at a.records k) < 256
  pub retained : (k : ℕ) → k < 256 → LotsFit (record_at a.records k).retained
  pub bid : (k : ℕ) → k < 256 → bid_in (get_or a.cards.lines k no_line) < 256
  pub withdrawn : (k : ℕ) → k < 256 → LotsFit (get_or a.cards.lines k no_line).withdrawn
  pub priority : (k : ℕ) → k < 256 → (get_or a.cards.lines k no_line).priority < 256

-- ---- parts of one width

module _ (part : ℕ → List ℕ) (w : ℕ) (wide : (k : ℕ) → length (part k) ≡ w) where
  -- how long n parts are
  pub parts_long : (n : ℕ) → length (bytes_up_to part n) ≡ n * w
  unfolding bytes_up_to
  parts_long zero = sym (zero-mul w)
  parts_long (suc n) = length-append (bytes_up_to part n) (part n) ∙ ap₂ ◌+◌ (parts_long n) (wide n) ∙ sym (suc-mul n w)

  at_by : (n k j : ℕ) → k < suc n → j < w → (k < n → get_or (bytes_up_to part n) (k * w + j) 0 ≡ get_or (part k) j 0)
      → (t : Bool) → eqb k n ≡ t → get_or (bytes_up_to part n ++ part n) (k * w + j) 0 ≡ get_or (part k) j 0
  at_by n k j l h ih true e =
      let q : k ≡ n = eqb-true k n e in
      rw (q, ← parts_long n) (get_or-append-add (bytes_up_to part n) (part n) j 0)
  at_by n k j l h ih false e =
      let q = eqb-false k n e in
      let g : k < n = omega (arith, q) in
      get_or-append (bytes_up_to part n) (part n) 0 (k * w + j)
      (omega (arith, parts_long n, suc-mul k w, mul-le-mul_right w g)) ∙ ih g

  -- byte j of part k
  pub parts_at : (n k j : ℕ) → k < n → j < w → get_or (bytes_up_to part n) (k * w + j) 0 ≡ get_or (part k) j 0
  unfolding bytes_up_to
  parts_at zero k j l h = absurd (let x : ⊥ = omega arith in x)
  parts_at (suc n) k j l h = at_by n k j l h (λ g. parts_at n k j g h) (eqb k n) refl

  -- byte j of part k, behind a front of that length
  behind : (x : List ℕ) (off n i k j : ℕ) → length x ≡ off → k < n → j < w → i ≡ off + k * w + j
      → get_or (x ++ bytes_up_to part n) i 0 ≡ get_or (part k) j 0
  behind x off n i k j e l h q =
      let z : i ≡ length x + (k * w + j) = omega arith in
      ap (λ i. get_or (x ++ bytes_up_to part n) i 0) z
      ∙ get_or-append-add x (bytes_up_to part n) (k * w + j) 0
      ∙ parts_at n k j l h

  behind_long : (x : List ℕ) (off n : ℕ) → length x ≡ off → length (x ++ bytes_up_to part n) ≡ off + n * w
  behind_long x off n e = length-append x (bytes_up_to part n) ∙ ap₂ ◌+◌ e (parts_long n)

-- a byte of the front
under : (x y : List ℕ) (off i : ℕ) → length x ≡ off → i < off → get_or (x ++ y) i 0 ≡ get_or x i 0
under x y off i e h = get_or-append x y 0 i (omega arith)

-- the bytes of a part stand in s from a place on
record Part (s part : List ℕ) (w off : ℕ) : Type 0 where
  byte : (j i : ℕ) → j < w → i ≡ off + j → get_or s i 0 ≡ get_or part j 0

-- ---- the parts of a state

pub record_wide : (r : Record) → length (record_bytes r) ≡ record_width
unfolding lots_bytes
record_wide r = refl

pub line_wide : (l : Line) → length (line_bytes l) ≡ line_width
unfolding lots_bytes
line_wide l = refl

module _ (a : Auction) where
  abbrev lane_of : ℕ → List ℕ
  lane_of p = lane_bytes (lane_at a p)

  abbrev seat_of : ℕ → List ℕ
  seat_of b = seat_bytes (seat_at a b)

  abbrev row_of : ℕ → List ℕ
  row_of i = row_bytes (get_or a.decrements.row i no_row)

  abbrev record_of : ℕ → List ℕ
  record_of k = record_bytes (record_at a.records k)

  abbrev line_of : ℕ → List ℕ
  line_of k = line_bytes (get_or a.cards.lines k no_line)

  abbrev to_lanes : List ℕ
  to_lanes = head_bytes a ++ bytes_up_to lane_of 8

  abbrev to_seats : List ℕ
  to_seats = to_lanes ++ bytes_up_to seat_of 32

  abbrev to_rows : List ℕ
  to_rows = to_seats ++ bytes_up_to row_of 8

  abbrev to_records : List ℕ
  to_records = to_rows ++ bytes_up_to record_of 256

  lanes_long : length to_lanes ≡ bidders_from
  lanes_long = behind_long lane_of product_width (λ k. refl) (head_bytes a) head_width 8 refl

  seats_long : length to_seats ≡ rows_from
  seats_long = behind_long seat_of bidder_width (λ k. refl) to_lanes bidders_from 32 lanes_long

  rows_long : length to_rows ≡ records_from
  rows_long = behind_long row_of row_width (λ k. refl) to_seats rows_from 8 seats_long

  records_long : length to_records ≡ bids_from
  records_long = behind_long record_of record_width (λ k. record_wide (record_at a.records k)) to_rows records_from 256 rows_long

  -- the state's length
  pub stored_long : length (stored a) ≡ state_length
  unfolding stored
  stored_long = behind_long line_of line_width (λ k. line_wide (get_or a.cards.lines k no_line)) to_records bids_from 256 records_long

  in_records : (i : ℕ) → i < bids_from → get_or (stored a) i 0 ≡ get_or to_records i 0
  unfolding stored
  in_records i h = under to_records (bytes_up_to line_of 256) bids_from i records_long h

  in_rows : (i : ℕ) → i < records_from → get_or (stored a) i 0 ≡ get_or to_rows i 0
  in_rows i h = in_records i (omega arith) ∙ under to_rows _ records_from i rows_long h

  in_seats : (i : ℕ) → i < rows_from → get_or (stored a) i 0 ≡ get_or to_seats i 0
  in_seats i h = in_rows i (omega arith) ∙ under to_seats _ rows_from i seats_long h

  in_lanes : (i : ℕ) → i < bidders_from → get_or (stored a) i 0 ≡ get_or to_lanes i 0
  in_lanes i h = in_seats i (omega arith) ∙ under to_lanes _ bidders_from i lanes_long h

  head_part : Part (stored a) (head_bytes a) head_width 0
  head_part = record {
    byte = λ j i l e.
        let q : i ≡ j = omega arith in
        rw q (in_lanes j (omega arith) ∙ under (head_bytes a) (bytes_up_to lane_of 8) head_width j refl l);
  }

  lane_part_lem : (p : ℕ) → p < 8 → Part (stored a) (lane_of p) product_width (products_from + p * product_width)
  lane_part_lem p h = record {
    byte = λ j i l e. in_lanes i (omega arith) ∙ behind lane_of product_width (λ k. refl) (head_bytes a) head_width 8 i p j refl h l e;
  }

  seat_part_lem : (b : ℕ) → b < 32 → Part (stored a) (seat_of b) bidder_width (bidders_from + b * bidder_width)
  seat_part_lem b h = record {
    byte = λ j i l e. in_seats i (omega arith) ∙ behind seat_of bidder_width (λ k. refl) to_lanes bidders_from 32 i b j lanes_long h l e;
  }

  row_part_lem : (r : ℕ) → r < 8 → Part (stored a) (row_of r) row_width (rows_from + r * row_width)
  row_part_lem r h = record {
    byte = λ j i l e. in_rows i (omega arith) ∙ behind row_of row_width (λ k. refl) to_seats rows_from 8 i r j seats_long h l e;
  }

  record_part : (k : ℕ) → k < 256 → Part (stored a) (record_of k) record_width (records_from + k * record_width)
  record_part k h = record {
    byte = λ j i l e. in_records i (omega arith)
        ∙ behind record_of record_width (λ k. record_wide (record_at a.records k)) to_rows records_from 256 i k j rows_long h l e;
  }

  line_part : (k : ℕ) → k < 256 → Part (stored a) (line_of k) line_width (bids_from + k * line_width)
  unfolding stored
  line_part k h = record {
    byte = λ j i l e.
        behind line_of line_width (λ k. line_wide (get_or a.cards.lines k no_line)) to_records bids_from 256 i k j records_long h l e;
  }

-- ---- and back

three : (x : ℕ) → x < 16777216 → x / 65536 % 256 * 65536 + x / 256 % 256 * 256 + x % 256 ≡ x
three x h = omega arith

joined : (k l m n x : ℕ) → k * 65536 + l * 256 + m ≡ x / 256 → n ≡ x % 256 → k * 16777216 + l * 65536 + m * 256 + n ≡ x
joined k l m n x e f = omega arith

-- numbers read from the bytes of one part, which stands from a place on
module _ {s part : List ℕ} {w off : ℕ} (P : Part s part w off) where
  one_at : (j i x : ℕ) → j < w → i ≡ off + j → x < 256 → get_or part j 0 ≡ x % 256 → read1 s i ≡ x
  one_at j i x l e h p = omega (arith, P.byte j i l e)

  two_at : (j i x : ℕ) → j + 1 < w → i ≡ off + j → x < 65536 → get_or part j 0 ≡ x / 256 % 256 → get_or part (j + 1) 0 ≡ x % 256
      → read2 s i ≡ x
  two_at j i x l e h p q = omega (arith, P.byte j i (omega arith) e, P.byte (j + 1) (i + 1) l (omega arith))

  three_at : (j i x : ℕ) → j + 2 < w → i ≡ off + j → x < 16777216 → get_or part j 0 ≡ x / 65536 % 256 → get_or part (j + 1) 0 ≡ x / 256 % 256
      → get_or part (j + 2) 0 ≡ x % 256 → read3 s i ≡ x
  three_at j i x l e h p q r =
      rw (P.byte j i (omega arith) e, P.byte (j + 1) (i + 1) (omega arith) (omega arith), P.byte (j + 2) (i + 2) l (omega arith), p, q, r) (three x h)

  four_at : (j i x : ℕ) → j + 3 < w → i ≡ off + j → x < 4294967296 → get_or part j 0 ≡ x / 16777216 % 256
      → get_or part (j + 1) 0 ≡ x / 65536 % 256 → get_or part (j + 2) 0 ≡ x / 256 % 256 → get_or part (j + 3) 0 ≡ x % 256 → read4 s i ≡ x
  four_at j i x l e h p q r t =
      rw (P.byte j i (omega arith) e, P.byte (j + 1) (i + 1) (omega arith) (omega arith), P.byte (j + 2) (i + 2) (omega arith) (omega arith), P.byte (j + 3) (i + 3) l (omega arith), p, q, r, t)
      (joined (x / 16777216 % 256) (x / 65536 % 256) (x / 256 % 256) (x % 256) x
      (rw (← shr-shr x 8 16, ← shr-shr x 8 8) (three (x / 256) (omega arith))) refl)

  lot_at_lem : (j i : ℕ) (l : Lot) → j + 3 < w → i ≡ off + j → LotFits l → get_or part j 0 ≡ count_of l % 256
      → get_or part (j + 1) 0 ≡ l.exit / 65536 % 256 → get_or part (j + 1 + 1) 0 ≡ l.exit / 256 % 256
      → get_or part (j + 1 + 2) 0 ≡ l.exit % 256
      → lot_read s i ≡ l
  lot_at_lem j i l h e f p q r t =
      let n = one_at j i (count_of l) (omega arith) e f.0 p in
      let x = three_at (j + 1) (i + 1) l.exit (omega arith) (omega arith) f.1 q r t in
      rw (n, x)

module _ (a : Auction) (L : Long a) (F : Fits a) where
  lane_back : (p : ℕ) → p < 8 → lane_from (stored a) (p * product_width + products_from) ≡ lane_at a p
  lane_back p h =
      let P = lane_part_lem a p h in
      let k = p * product_width + products_from in
      let l = lane_at a p in
      rw (
        one_at P 0 k l.target.0 (omega arith) (omega arith) (F.target p h) refl,
        one_at P 1 (k + 1) l.cap.0 (omega arith) (omega arith) (F.cap p h) refl,
        three_at P 2 (k + 2) l.start (omega arith) (omega arith) (F.start p h) refl refl refl,
        three_at P 5 (k + 5) l.price (omega arith) (omega arith) (F.price p h) refl refl refl,
        three_at P 8 (k + 8) l.before (omega arith) (omega arith) (F.before p h) refl refl refl,
        one_at P 11 (k + 11) l.mark (omega arith) (omega arith) (F.mark p h) refl,
      )

  seat_back : (b : ℕ) → b < 32 → seat_from (stored a) (b * bidder_width + bidders_from) ≡ seat_at a b
  seat_back b h =
      let P = seat_part_lem a b h in
      let k = b * bidder_width + bidders_from in
      rw (
        two_at P 0 k (seat_at a b).initial.0 (omega arith) (omega arith) (F.initial b h) refl refl,
        two_at P 2 (k + 2) (seat_at a b).free.0 (omega arith) (omega arith) (F.free b h) refl refl,
      )

  row_back : (i : ℕ) → i < 8 → row_from (stored a) (i * row_width + rows_from) ≡ get_or a.decrements.row i no_row
  row_back i h =
      let P = row_part_lem a i h in
      let k = i * row_width + rows_from in
      rw (
        two_at P 0 k (percent_of a.decrements i) (omega arith) (omega arith) (F.percent i h) refl refl,
        two_at P 2 (k + 2) (decrement_of a.decrements i) (omega arith) (omega arith) (F.decrement i h) refl refl,
      )

  retained_back : (k : ℕ) → k < 256 → lots_read (stored a) (k * record_width + records_from + 2) ≡ (record_at a.records k).retained
  unfolding lots_read lots_bytes
  retained_back k h =
      let P = record_part a k h in
      let i = k * record_width + records_from + 2 in
      let l = (record_at a.records k).retained in
      let f = F.retained k h in
      rw (
        lot_at_lem P 2 i l.one (omega arith) (omega arith) f.one refl refl refl refl,
        lot_at_lem P 6 (i + lot_width) l.two (omega arith) (omega arith) f.two refl refl refl refl,
        lot_at_lem P 10 (i + 2 * lot_width) l.three (omega arith) (omega arith) f.three refl refl refl refl,
        lot_at_lem P 14 (i + 3 * lot_width) l.four (omega arith) (omega arith) f.four refl refl refl refl,
      )

  record_back : (k : ℕ) → k < 256 → record_from (stored a) (k * record_width + records_from) ≡ record_at a.records k
  record_back k h =
      let P = record_part a k h in
      let r = record_at a.records k in
      rw (
        one_at P 0 (k * record_width + records_from) (going_in r) (omega arith) (omega arith) (F.going k h) refl,
        one_at P 1 (k * record_width + records_from + 1) (denied_in r) (omega arith) (omega arith) (F.denied k h) refl,
        retained_back k h,
      )

  withdrawn_back : (k : ℕ) → k < 256
      → lots_read (stored a) (k * line_width + bids_from + 1) ≡ (get_or a.cards.lines k no_line).withdrawn
  unfolding lots_read lots_bytes
  withdrawn_back k h =
      let P = line_part a k h in
      let i = k * line_width + bids_from + 1 in
      let l = (get_or a.cards.lines k no_line).withdrawn in
      let f = F.withdrawn k h in
      rw (
        lot_at_lem P 1 i l.one (omega arith) (omega arith) f.one refl refl refl refl,
        lot_at_lem P 5 (i + lot_width) l.two (omega arith) (omega arith) f.two refl refl refl refl,
        lot_at_lem P 9 (i + 2 * lot_width) l.three (omega arith) (omega arith) f.three refl refl refl refl,
        lot_at_lem P 13 (i + 3 * lot_width) l.four (omega arith) (omega arith) f.four refl refl refl refl,
      )

  line_back : (k : ℕ) → k < 256 → line_from (stored a) (k * line_width + bids_from) ≡ get_or a.cards.lines k no_line
  unfolding lots_bytes
  line_back k h =
      let P = line_part a k h in
      let l = get_or a.cards.lines k no_line in
      let i = k * line_width + bids_from in
      rw (
        one_at P 0 i (bid_in l) (omega arith) (omega arith) (F.bid k h) refl,
        withdrawn_back k h,
        one_at P 17 (i + 1 + lots_width) l.priority (omega arith) (omega arith) (F.priority k h) refl,
      )

  -- what is stored is loaded
  pub loads : loaded (stored a) ≡ a
  unfolding loaded
  loads =
      let t = a.terms in
      let H = head_part a in
      let f : read1 (stored a) 0 ≡ a.phase = one_at H 0 0 a.phase (omega arith) (omega arith) F.phase refl in
      let u : read1 (stored a) 1 ≡ t.unit = one_at H 1 1 t.unit (omega arith) (omega arith) F.unit refl in
      let m : read1 (stored a) 2 ≡ t.products = one_at H 2 2 t.products (omega arith) (omega arith) F.products refl in
      let n : read1 (stored a) 3 ≡ t.bidders = one_at H 3 3 t.bidders (omega arith) (omega arith) F.bidders refl in
      let w : read1 (stored a) 4 ≡ a.decrements.rows = one_at H 4 4 a.decrements.rows (omega arith) (omega arith) F.rows refl in
      let r : read2 (stored a) 5 ≡ a.round = two_at H 5 5 a.round (omega arith) (omega arith) F.round refl refl in
      let s : read2 (stored a) 7 ≡ t.statewide.0 = two_at H 7 7 t.statewide.0 (omega arith) (omega arith) F.statewide refl refl in
      let c : read4 (stored a) 9 ≡ a.cards.filed = four_at H 9 9 a.cards.filed (omega arith) (omega arith) F.filed refl refl refl refl in
      let x = list_is _ no_lane 8 a.lanes L.lanes (λ p h. sym (lane_back p h)) in
      let y = list_is _ no_seat 32 a.seats L.seats (λ b h. sym (seat_back b h)) in
      let z = list_is _ no_row 8 a.decrements.row L.row (λ i h. sym (row_back i h)) in
      let h = list_is _ nothing 256 a.records L.records (λ k h. sym (record_back k h)) in
      let b = list_is _ no_line 256 a.cards.lines L.lines (λ k h. sym (line_back k h)) in
      rw (f, u, m, n, w, r, s, c, ← x, ← y, ← z, ← h, ← b)

-- ---- any bytes

-- the lists that are loaded are as long as the arrays
pub loaded_long : (s : List ℕ) → Long (loaded s)
unfolding loaded
loaded_long s = record { lanes = list_long _ 8; seats = list_long _ 32; row = list_long _ 8; records = list_long _ 256; lines = list_long _ 256 }

-- what is loaded is read

module _ (s : List ℕ) where
  pub lane_read : (p : ℕ) → p < 8 → lane_at (loaded s) p ≡ lane_from s (p * product_width + products_from)
  unfolding loaded
  lane_read p h = list_at _ no_lane 8 p h

  pub seat_read : (b : ℕ) → b < 32 → seat_at (loaded s) b ≡ seat_from s (b * bidder_width + bidders_from)
  unfolding loaded
  seat_read b h = list_at _ no_seat 32 b h

  pub row_read : (i : ℕ) → i < 8 → get_or (loaded s).decrements.row i no_row ≡ row_from s (i * row_width + rows_from)
  unfolding loaded
  row_read i h = list_at _ no_row 8 i h

  pub record_read : (k : ℕ) → k < 256 → record_at (loaded s).records k ≡ record_from s (k * record_width + records_from)
  unfolding loaded
  record_read k h = list_at _ nothing 256 k h

  pub line_read : (k : ℕ) → k < 256 → get_or (loaded s).cards.lines k no_line ≡ line_from s (k * line_width + bids_from)
  unfolding loaded
  line_read k h = list_at _ no_line 256 k h

-- a bitmap that is loaded has 32 bits
pub loaded_bits : (s : List ℕ) → Bytes s → (loaded s).cards.filed < 4294967296
unfolding loaded
loaded_bits s B = omega (arith, B.small 9, B.small 10, B.small 11, B.small 12)

no_bytes : Bytes []
no_bytes = record { small = λ i. omega arith }

one_byte : (x : ℕ) (s : List ℕ) → Bytes s → Bytes (x % 256 ∷ s)
one_byte x s B = record { small = λ i. elim i as (λ j. get_or (x % 256 ∷ s) j 0 < 256) [ zero ↦ omega arith | suc j ↦ B.small j ] }

more_bytes : (s t : List ℕ) → Bytes s → Bytes t → Bytes (s ++ t)
more_bytes s t B C = record { small = λ i. by i (ltb i (length s)) refl }
  where
    by : (i : ℕ) (k : Bool) → ltb i (length s) ≡ k → get_or (s ++ t) i 0 < 256
    by i true e = rw (get_or-append s t 0 i (ltb-true _ _ e)) (B.small i)
    by i false e =
        let l = ltb-false i (length s) e in
        let z : i ≡ length s + (i - length s) = omega arith in
        rw (z, get_or-append-add s t (i - length s) 0) (C.small (i - length s))

parts_bytes : (part : ℕ → List ℕ) → ((k : ℕ) → Bytes (part k)) → (n : ℕ) → Bytes (bytes_up_to part n)
unfolding bytes_up_to
parts_bytes part h zero = no_bytes
parts_bytes part h (suc n) = more_bytes (bytes_up_to part n) (part n) (parts_bytes part h n) (h n)

lots_bytes_lem : (l : Lots) → Bytes (lots_bytes l)
unfolding lots_bytes
lots_bytes_lem l = search (one_byte, no_bytes) depth 30

-- what is stored is bytes
pub stored_bytes : (a : Auction) → Bytes (stored a)
unfolding stored
stored_bytes a = search (one_byte, lots_bytes_lem, more_bytes, parts_bytes, no_bytes) depth 30
