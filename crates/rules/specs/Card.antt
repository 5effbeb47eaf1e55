-- "The bid card." Assumes nothing.
use Rattle.std.specs.Prelude.{Bool, ◌&&◌, cond, List, ℕ, zero, suc, ◌+◌, ◌-◌, ◌*◌, ◌/◌, length, get_or, set, replicate, leb, ltb, eqb, Option, None, Some, Ok, Err}
use Rattle.rules.specs.declared.Lot.{Lot}
use Rattle.rules.specs.declared.Lots.{Lots}
use Rattle.rules.specs.declared.Line.{Line}
use Rattle.rules.specs.declared.Bid.{Bid}
use Rattle.rules.specs.declared.CardRead.{CardRead}
use Rattle.rules.specs.Answers.{Outcome, Answer, refusal_of, unless_refused}
use Rattle.rules.specs.Count.{all_up_to}
use Rattle.rules.specs.Units.{tranches}
use Rattle.rules.specs.Lots.{lot, lots, no_lots, count_of, lots_zero}
use Rattle.rules.specs.Bits.{field_at, put_field}

-- tranches, lots withdrawn, switching priority
abbrev pub line : ℕ → Lots → ℕ → Line
line b l k = record { tranches = tranches b; withdrawn = l; priority = k }

abbrev pub no_line : Line
no_line = line 0 no_lots 0

-- "bidder 5, round 12; then for each product in rank: tranches 8", "up to four lots, each a count of 8 bits and a price of 17, in the place
-- of the old two fields", "switching priority 3": how many bits a lot takes, and a line
abbrev pub lot_bits : ℕ
lot_bits = 8 + 17

abbrev pub line_bits : ℕ
line_bits = 8 + 4 * lot_bits + 3

-- where the line of product i begins, and so how many bits n products take
abbrev pub line_bit : ℕ → ℕ
line_bit i = 17 + line_bits * i

-- "Zero bits fill the last byte": the card's length for n products, 16, 30, 44, 58, 72, 86, 100, 114
abbrev pub card_length : ℕ → ℕ
card_length n = (line_bit n + 7) / 8

-- "product count not 1 to 8" is number 29
abbrev pub count_fits : ℕ → Bool
count_fits n = leb 1 n && leb n 8

-- ---- reading

-- a field of w bits, or that it ends past the card
abbrev pub field_of : List ℕ → ℕ → ℕ → Option ℕ
field_of s at w = cond (leb (at + w) (8 * length s)) (Some (field_at s at w)) None

abbrev pub lot_from : List ℕ → ℕ → Lot
lot_from s at = lot (field_at s at 8) (field_at s (at + 8) 17)

abbrev pub lots_from : List ℕ → ℕ → Lots
lots_from s at = lots (lot_from s at) (lot_from s (at + lot_bits)) (lot_from s (at + 2 * lot_bits)) (lot_from s (at + 3 * lot_bits))

abbrev pub line_at : List ℕ → ℕ → Line
line_at s at = line (field_at s at 8) (lots_from s (at + 8)) (field_at s (at + 8 + 4 * lot_bits) 3)

-- the lines of the first n products, and none for the others
unfoldable pub read_lines : List ℕ → ℕ → List Line
read_lines s zero = replicate 8 no_line
read_lines s (suc n) = set (read_lines s n) n (line_at s (line_bit n))

-- "filling bits not zero" is number 5
abbrev pub filled : List ℕ → ℕ → Bool
filled s n = eqb (field_at s (line_bit n) (8 * card_length n - line_bit n)) 0

-- a refused read answers its number and an all-zero array
abbrev pub read_refused : ℕ → CardRead
read_refused k = record { card = Err (refusal_of k); lines = replicate 8 no_line }

-- bidder, round
abbrev pub bid_by : ℕ → ℕ → Bid
bid_by b r = record { bidder = b; round = r }

abbrev pub bid_of : List ℕ → ℕ → CardRead
bid_of s n = record { card = Ok (bid_by (field_at s 0 5) (field_at s 5 12)); lines = read_lines s n }

-- "A card read is either a bid or a numbered refusal": 29, 4, 5
unfoldable pub read_card : List ℕ → ℕ → CardRead
read_card s n =
    cond (count_fits n)
    (cond (eqb (length s) (card_length n)) (cond (filled s n) (bid_of s n) (read_refused 5)) (read_refused 4))
    (read_refused 29)

-- the number of a read: 29, 4, 5, or 0
abbrev pub read_number : List ℕ → ℕ → ℕ
read_number s n = cond (count_fits n) (cond (eqb (length s) (card_length n)) (cond (filled s n) 0 5) 4) 29

-- ---- writing

unfoldable pub put_lot : List ℕ → ℕ → Lot → List ℕ
put_lot s at l = put_field (put_field s at 8 (count_of l)) (at + 8) 17 l.exit

unfoldable pub put_lots : List ℕ → ℕ → Lots → List ℕ
put_lots s at l =
    put_lot (put_lot (put_lot (put_lot s at l.one) (at + lot_bits) l.two) (at + 2 * lot_bits) l.three) (at + 3 * lot_bits) l.four

unfoldable pub put_line : List ℕ → ℕ → Line → List ℕ
put_line s at l =
    put_field (put_lots (put_field s at 8 l.tranches.0) (at + 8) l.withdrawn) (at + 8 + 4 * lot_bits) 3 l.priority

unfoldable pub put_lines : List ℕ → List Line → ℕ → List ℕ
put_lines s ls zero = s
put_lines s ls (suc n) = put_line (put_lines s ls n) (line_bit n) (get_or ls n no_line)

-- the card of a bid
unfoldable pub card_of : ℕ → ℕ → ℕ → List Line → List ℕ
card_of n bidder round ls = put_lines (put_field (put_field (replicate (card_length n) 0) 0 5 bidder) 5 12 round) ls n

-- "A bid that can be written is any choice of fields that fit their bits": each field of the line is below 2 to its bits
abbrev pub lot_fits : Lot → Bool
lot_fits l = ltb (count_of l) 256 && ltb l.exit 131072

abbrev pub lots_fit : Lots → Bool
lots_fit l = lot_fits l.one && (lot_fits l.two && (lot_fits l.three && lot_fits l.four))

abbrev pub line_fits : Line → Bool
line_fits l = ltb l.tranches.0 256 && (lots_fit l.withdrawn && ltb l.priority 8)

abbrev pub line_zero : Line → Bool
line_zero l = eqb l.tranches.0 0 && (lots_zero l.withdrawn && eqb l.priority 0)

-- "a field too large for its bits, or not 0 past the count" is number 30
abbrev pub writable : ℕ → ℕ → ℕ → List Line → Bool
writable n bidder round ls =
    ltb bidder 32
    && (ltb round 4096 && all_up_to (λ i. cond (ltb i n) (line_fits (get_or ls i no_line)) (line_zero (get_or ls i no_line))) 8)

-- the number of a write into room of that length: 29, 4, 30, or 0
unfoldable pub write_number : ℕ → ℕ → ℕ → ℕ → List Line → ℕ
write_number room n bidder round ls =
    cond (count_fits n) (cond (eqb room (card_length n)) (cond (writable n bidder round ls) 0 30) 4) 29

-- "write a bid as a card": the answer, and the room after it. A refused write leaves the room as it was.
unfoldable pub write_card : List ℕ → ℕ → ℕ → ℕ → List Line → Outcome Answer
write_card room n bidder round ls = unless_refused (write_number (length room) n bidder round ls) (card_of n bidder round ls) room
