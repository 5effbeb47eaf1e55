-- "The state is lent bytes of one fixed length": every byte of it, most significant first. Assumes nothing.
use Rattle.std.specs.Prelude.{Bool, List, [], ◌∷◌, ◌++◌, ℕ, zero, suc, ◌+◌, ◌*◌, ◌/◌, ◌%◌, length, get_or, eqb}
pub use Rattle.layout.specs.Sections.{head_width, product_width, bidder_width, row_width, lot_width, lots_width, record_width, line_width, products_from, bidders_from, rows_from, records_from, bids_from, state_length}
use Rattle.rules.specs.declared.Lot.{Lot}
use Rattle.rules.specs.declared.Lots.{Lots}
use Rattle.rules.specs.declared.Line.{Line}
use Rattle.rules.specs.declared.Record.{Record}
use Rattle.rules.specs.declared.Terms.{Terms}
use Rattle.rules.specs.declared.Lane.{Lane}
use Rattle.rules.specs.declared.Seat.{Seat}
use Rattle.rules.specs.declared.Row.{Row}
use Rattle.rules.specs.declared.Auction.{Auction}
use Rattle.rules.specs.Count.{all_up_to, list_of}
use Rattle.rules.specs.Units.{tranches}
use Rattle.rules.specs.Lots.{lot, lots, count_of}
use Rattle.rules.specs.Card.{line, no_line}
use Rattle.rules.specs.Parts.{lane, lane_at, seat, seat_at, row, no_row, table, cards, auction}
use Rattle.rules.specs.Held.{entry, going_in, denied_in, record_at}
use Rattle.rules.specs.Bid.{bid_in}

-- ---- to bytes

abbrev pub byte1 : ℕ → List ℕ
byte1 x = x % 256 ∷ []

abbrev pub bytes2 : ℕ → List ℕ
bytes2 x = x / 256 % 256 ∷ x % 256 ∷ []

abbrev pub bytes3 : ℕ → List ℕ
bytes3 x = x / 65536 % 256 ∷ x / 256 % 256 ∷ x % 256 ∷ []

abbrev pub bytes4 : ℕ → List ℕ
bytes4 x = x / 16777216 % 256 ∷ x / 65536 % 256 ∷ x / 256 % 256 ∷ x % 256 ∷ []

-- the bytes of the first n parts
unfoldable pub bytes_up_to : (ℕ → List ℕ) → ℕ → List ℕ
bytes_up_to part zero = []
bytes_up_to part (suc n) = bytes_up_to part n ++ part n

-- phase, unit, products, bidders, rows; round 2, statewide cap 2, bitmap 4
abbrev pub head_bytes : Auction → List ℕ
head_bytes a =
    byte1 a.phase ++ byte1 a.terms.unit ++ byte1 a.terms.products ++ byte1 a.terms.bidders
    ++ byte1 a.decrements.rows ++ bytes2 a.round ++ bytes2 a.terms.statewide.0 ++ bytes4 a.cards.filed

-- target, cap; starting price 3, p 3, q 3; p's mark
abbrev pub lane_bytes : Lane → List ℕ
lane_bytes l =
    byte1 l.target.0 ++ byte1 l.cap.0 ++ bytes3 l.start ++ bytes3 l.price ++ bytes3 l.before ++ byte1 l.mark

-- initial eligibility 2, f 2
abbrev pub seat_bytes : Seat → List ℕ
seat_bytes s = bytes2 s.initial.0 ++ bytes2 s.free.0

-- percentage 2, decrement 2
abbrev pub row_bytes : Row → List ℕ
row_bytes r = bytes2 r.percent ++ bytes2 r.decrement.0

-- count; price 3
abbrev pub lot_bytes : Lot → List ℕ
lot_bytes l = byte1 (count_of l) ++ bytes3 l.exit

unfoldable pub lots_bytes : Lots → List ℕ
lots_bytes l = lot_bytes l.one ++ lot_bytes l.two ++ lot_bytes l.three ++ lot_bytes l.four

-- g, d; four lots
abbrev pub record_bytes : Record → List ℕ
record_bytes r = byte1 (going_in r) ++ byte1 (denied_in r) ++ lots_bytes r.retained

-- tranches; four lots; priority
abbrev pub line_bytes : Line → List ℕ
line_bytes l = byte1 (bid_in l) ++ lots_bytes l.withdrawn ++ byte1 l.priority

unfoldable pub stored : Auction → List ℕ
stored a =
    head_bytes a ++ bytes_up_to (λ p. lane_bytes (lane_at a p)) 8 ++ bytes_up_to (λ b. seat_bytes (seat_at a b)) 32
    ++ bytes_up_to (λ i. row_bytes (get_or a.decrements.row i no_row)) 8
    ++ bytes_up_to (λ k. record_bytes (record_at a.records k)) 256
    ++ bytes_up_to (λ k. line_bytes (get_or a.cards.lines k no_line)) 256

-- ---- and back

abbrev pub read1 : List ℕ → ℕ → ℕ
read1 s k = get_or s k 0

abbrev pub read2 : List ℕ → ℕ → ℕ
read2 s k = get_or s k 0 * 256 + get_or s (k + 1) 0

abbrev pub read3 : List ℕ → ℕ → ℕ
read3 s k = get_or s k 0 * 65536 + get_or s (k + 1) 0 * 256 + get_or s (k + 2) 0

abbrev pub read4 : List ℕ → ℕ → ℕ
read4 s k = get_or s k 0 * 16777216 + get_or s (k + 1) 0 * 65536 + get_or s (k + 2) 0 * 256 + get_or s (k + 3) 0

abbrev pub terms_from : List ℕ → Terms
terms_from s = record { unit = read1 s 1; products = read1 s 2; bidders = read1 s 3; statewide = tranches (read2 s 7) }

abbrev pub lane_from : List ℕ → ℕ → Lane
lane_from s k = lane (read1 s k) (read1 s (k + 1)) (read3 s (k + 2)) (read3 s (k + 5)) (read3 s (k + 8)) (read1 s (k + 11))

abbrev pub seat_from : List ℕ → ℕ → Seat
seat_from s k = seat (read2 s k) (read2 s (k + 2))

abbrev pub row_from : List ℕ → ℕ → Row
row_from s k = row (read2 s k) (read2 s (k + 2))

abbrev pub lot_read : List ℕ → ℕ → Lot
lot_read s k = lot (read1 s k) (read3 s (k + 1))

unfoldable pub lots_read : List ℕ → ℕ → Lots
lots_read s k = lots (lot_read s k) (lot_read s (k + lot_width)) (lot_read s (k + 2 * lot_width)) (lot_read s (k + 3 * lot_width))

abbrev pub record_from : List ℕ → ℕ → Record
record_from s k = entry (read1 s k) (read1 s (k + 1)) (lots_read s (k + 2))

abbrev pub line_from : List ℕ → ℕ → Line
line_from s k = line (read1 s k) (lots_read s (k + 1)) (read1 s (k + 1 + lots_width))

unfoldable pub loaded : List ℕ → Auction
loaded s =
    auction (read1 s 0) (read2 s 5) (terms_from s)
    (list_of (λ p. lane_from s (p * product_width + products_from)) 8)
    (list_of (λ b. seat_from s (b * bidder_width + bidders_from)) 32)
    (table (read1 s 4) (list_of (λ i. row_from s (i * row_width + rows_from)) 8))
    (list_of (λ k. record_from s (k * record_width + records_from)) 256)
    (cards (read4 s 9) (list_of (λ k. line_from s (k * line_width + bids_from)) 256))

-- "all zero as issued"
abbrev pub all_zero : List ℕ → Bool
all_zero s = all_up_to (λ i. eqb (get_or s i 0) 0) (length s)
