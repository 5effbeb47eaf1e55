-- The sections of the state's bytes: a head, 8 products, 32 bidders, 8 decrement rows, 256 records and 256 bid lines, one after the other.
-- What an entry's bytes say is in the crate rules, specs/Layout.antt. Assumes nothing.
use Rattle.std.specs.Prelude.{ℕ, ◌+◌, ◌*◌}

-- ---- how many bytes an entry has

abbrev pub head_width : ℕ
head_width = 13

abbrev pub product_width : ℕ
product_width = 12

abbrev pub bidder_width : ℕ
bidder_width = 4

abbrev pub row_width : ℕ
row_width = 4

-- a count and a price; four of them
abbrev pub lot_width : ℕ
lot_width = 4

abbrev pub lots_width : ℕ
lots_width = 4 * lot_width

abbrev pub record_width : ℕ
record_width = 2 + lots_width

abbrev pub line_width : ℕ
line_width = 1 + lots_width + 1

-- ---- where each section begins

abbrev pub products_from : ℕ
products_from = head_width

abbrev pub bidders_from : ℕ
bidders_from = products_from + 8 * product_width

abbrev pub rows_from : ℕ
rows_from = bidders_from + 32 * bidder_width

abbrev pub records_from : ℕ
records_from = rows_from + 8 * row_width

abbrev pub bids_from : ℕ
bids_from = records_from + 256 * record_width

-- "The state is lent bytes of one fixed length, at most 8,192"; document 02: "The state limit becomes 32,768
-- bytes"
abbrev pub state_length : ℕ
state_length = bids_from + 256 * line_width
