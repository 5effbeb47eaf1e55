-- The example card of document 01, and the lengths of cards, computed. Assumes nothing.
use mathlib.Core.Path.{◌≡◌, refl}
use mathlib.Core.List.{List, [], ◌∷◌, map}
use Prim.Native.Nat.{ℕ, ◌-◌, ◌*◌}
use Rattle.rules.specs.declared.Line.{Line}
use Rattle.std.specs.Prelude.{Ok}
use Rattle.rules.specs.Bits.{bit_at, field_at, set_in, set_bit, put_field}
use Rattle.rules.specs.Lots.{lot, lots, no_lots}
use Rattle.rules.specs.Card.{line, no_line, bid_by, line_bit, card_length, read_lines, read_card, put_lot, put_lots, put_line, put_lines, card_of}

-- "one tranche of the first product, two of the second with priority 1, nothing withdrawn"
abbrev lines : List Line
lines = line 1 no_lots 0 ∷ line 2 no_lots 1 ∷ no_line ∷ no_line ∷ no_line ∷ no_line ∷ no_line ∷ no_line ∷ []

abbrev bytes : List ℕ
bytes =
    0x08 ∷ 0x01 ∷ 0x00 ∷ 0x80 ∷ 0x00 ∷ 0x00 ∷ 0x00 ∷ 0x00 ∷ 0x00 ∷ 0x00 ∷ 0x00 ∷ 0x00 ∷ 0x00 ∷ 0x00 ∷ 0x00 ∷ 0x00 ∷ 0x02 ∷ 0x00 ∷ 0x00 ∷ 0x00 ∷ 0x00
    ∷ 0x00 ∷ 0x00 ∷ 0x00 ∷ 0x00 ∷ 0x00 ∷ 0x00 ∷ 0x00 ∷ 0x00 ∷ 0x02 ∷ []

-- bidder 1 in round 2 with these lines has this card
pub example_written : card_of 2 1 2 lines ≡ bytes
unfolding card_of put_lines put_line put_lots put_lot put_field set_bit set_in
example_written = refl

-- and this card reads to that bid
pub example_read : read_card bytes 2 ≡ record { card = Ok (bid_by 1 2); lines = lines }
unfolding read_card read_lines field_at bit_at
example_read = refl

-- two tranches, and four lots withdrawn, of which the last has the highest price that fits: the card of one product, which no bit fills
abbrev lot_lines : List Line
lot_lines =
    line 2 (lots (lot 1 900) (lot 2 950) (lot 3 1000) (lot 4 131071)) 1 ∷ no_line ∷ no_line ∷ no_line ∷ no_line ∷ no_line ∷ no_line ∷ no_line ∷ []

abbrev lot_bytes_lem : List ℕ
lot_bytes_lem =
    0x08 ∷ 0x01 ∷ 0x01 ∷ 0x00 ∷ 0x80 ∷ 0xE1 ∷ 0x00 ∷ 0x80 ∷ 0x76 ∷ 0xC0 ∷ 0x60 ∷ 0x3E ∷ 0x80 ∷ 0x4F ∷ 0xFF ∷ 0xF9 ∷ []

pub lots_written : card_of 1 1 2 lot_lines ≡ lot_bytes_lem
unfolding card_of put_lines put_line put_lots put_lot put_field set_bit set_in
lots_written = refl

pub lots_read_lem : read_card lot_bytes_lem 1 ≡ record { card = Ok (bid_by 1 2); lines = lot_lines }
unfolding read_card read_lines field_at bit_at
lots_read_lem = refl

-- the lengths of the cards for 1 to 8 products
pub lengths : map card_length (1 ∷ 2 ∷ 3 ∷ 4 ∷ 5 ∷ 6 ∷ 7 ∷ 8 ∷ []) ≡ 16 ∷ 30 ∷ 44 ∷ 58 ∷ 72 ∷ 86 ∷ 100 ∷ 114 ∷ []
lengths = refl

-- and how many of their bits fill the last byte
pub fillings : map (λ n. 8 * card_length n - line_bit n) (1 ∷ 2 ∷ 3 ∷ 4 ∷ 5 ∷ 6 ∷ 7 ∷ 8 ∷ []) ≡ 0 ∷ 1 ∷ 2 ∷ 3 ∷ 4 ∷ 5 ∷ 6 ∷ 7 ∷ []
fillings = refl
