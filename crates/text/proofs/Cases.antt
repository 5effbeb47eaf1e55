-- Some lines and what is read of them. Assumes nothing.
use Rattle.std.proofs.Common.{◌≡◌, [], ◌∷◌, refl}
use Rattle.text.specs.Nibble.{nibble_of}
use Rattle.text.specs.Words.{run_end}
use Rattle.text.specs.Number.{read_up_to, read_word, take_at}
use Rattle.text.specs.Hex.{hex_up_to, got, hex_at}
use Rattle.text.specs.Lines.{end_from, line_end, join_from, joined}
use Rattle.text.specs.declared.number.Read.TheVariants.{Value, Large, Other}
use Rattle.text.specs.declared.number.Take.TheVariants.{Number, NotANumber, End}
use Rattle.text.specs.declared.hex.Hex.TheVariants as hex

-- `4294967295`, `4294967296` and `4x`
most : read_word (52 ∷ 50 ∷ 57 ∷ 52 ∷ 57 ∷ 54 ∷ 55 ∷ 50 ∷ 57 ∷ 53 ∷ []) ≡ Value 4294967295
unfolding read_up_to
most = refl

more : read_word (52 ∷ 50 ∷ 57 ∷ 52 ∷ 57 ∷ 54 ∷ 55 ∷ 50 ∷ 57 ∷ 54 ∷ []) ≡ Large
unfolding read_up_to
more = refl

other : read_word (52 ∷ 120 ∷ []) ≡ Other
unfolding read_up_to
other = refl

-- ` 17 ` from its start and from after the number; ` -1`
seventeen : take_at (32 ∷ 49 ∷ 55 ∷ 32 ∷ []) 0 ≡ Number 17 (record { at = 3 })
unfolding read_up_to run_end nibble_of
seventeen = refl

no_more : take_at (32 ∷ 49 ∷ 55 ∷ 32 ∷ []) 3 ≡ End
unfolding read_up_to run_end nibble_of
no_more = refl

below_zero : take_at (32 ∷ 45 ∷ 49 ∷ []) 0 ≡ NotANumber 1
unfolding read_up_to run_end nibble_of
below_zero = refl

-- ` 0aFf `, ` 0a0`, ` 0ag0` and ` `, over an array that begins 7, 8, 9
two_bytes : hex_at (32 ∷ 48 ∷ 97 ∷ 70 ∷ 102 ∷ 32 ∷ []) 0 (7 ∷ 8 ∷ 9 ∷ []) ≡ got (hex.Bytes 2 (record { at = 5 })) (10 ∷ 255 ∷ 9 ∷ [])
unfolding run_end nibble_of hex_up_to
two_bytes = refl

uneven : hex_at (32 ∷ 48 ∷ 97 ∷ 48 ∷ []) 0 (7 ∷ 8 ∷ 9 ∷ []) ≡ got (hex.Uneven 1) (7 ∷ 8 ∷ 9 ∷ [])
unfolding run_end nibble_of hex_up_to
uneven = refl

strange : hex_at (32 ∷ 48 ∷ 97 ∷ 103 ∷ 48 ∷ []) 0 (7 ∷ 8 ∷ 9 ∷ []) ≡ got (hex.Strange 3) (7 ∷ 8 ∷ 9 ∷ [])
unfolding run_end nibble_of hex_up_to
strange = refl

no_word : hex_at (32 ∷ []) 0 (7 ∷ 8 ∷ 9 ∷ []) ≡ got hex.End (7 ∷ 8 ∷ 9 ∷ [])
unfolding run_end nibble_of hex_up_to
no_word = refl

-- a line that goes on after `\` and `\n`, and after `\`, `\r` and `\n`; a line that ends at `\r`; a remark
goes_on_lem : line_end (97 ∷ 92 ∷ 10 ∷ 98 ∷ 10 ∷ []) ≡ 4
unfolding end_from run_end nibble_of
goes_on_lem = refl

goes_on_past_two : line_end (97 ∷ 92 ∷ 13 ∷ 10 ∷ 98 ∷ 10 ∷ []) ≡ 5
unfolding end_from run_end nibble_of
goes_on_past_two = refl

at_return : line_end (97 ∷ 13 ∷ 10 ∷ []) ≡ 1
unfolding end_from run_end nibble_of
at_return = refl

remark_ends : line_end (32 ∷ 35 ∷ 92 ∷ 10 ∷ 98 ∷ 10 ∷ []) ≡ 3
unfolding end_from run_end nibble_of
remark_ends = refl

-- `a\`, `\r`, `\n`, `b\c`
three_spaces : joined (97 ∷ 92 ∷ 13 ∷ 10 ∷ 98 ∷ 92 ∷ 99 ∷ []) ≡ 97 ∷ 32 ∷ 32 ∷ 32 ∷ 98 ∷ 92 ∷ 99 ∷ []
unfolding join_from
three_spaces = refl
