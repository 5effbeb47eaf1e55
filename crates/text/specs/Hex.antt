-- A word as bytes, two hexadecimal digits a byte. Assumes nothing.
use Rattle.std.specs.Prelude.{ℕ, zero, suc, ◌+◌, ◌-◌, ◌*◌, ◌/◌, ◌%◌, List, [], ◌∷◌, ◌++◌, length, drop, ◌==◌, nat_lt, slice_index}
use Rattle.text.specs.Nibble.{pick, nibble_of}
use Rattle.text.specs.Words.{run_end, span_at, bytes_in}
use Rattle.text.specs.declared.Span.{Span}
use Rattle.text.specs.declared.Run.TheVariants.{Digits}
use Rattle.text.specs.declared.hex.Hex.{Hex}
use Rattle.text.specs.declared.hex.Hex.TheVariants.{Bytes, Uneven, Long, Strange, End}

-- two digits as a byte; what is no digit counts as 0
abbrev pub pair_of : ℕ → ℕ → ℕ
pair_of a b = nibble_of a % 16 * 16 + nibble_of b % 16

-- the first n bytes that the digits of w make
unfoldable pub hex_up_to : List ℕ → ℕ → List ℕ
hex_up_to w zero = []
hex_up_to w (suc n) = hex_up_to w n ++ (pair_of (slice_index w (n * 2)) (slice_index w (n * 2 + 1)) ∷ [])

-- the answer, and what the lent array then holds
pub record Got : Type 0 where
  pub answer : Hex
  pub bytes : List ℕ

abbrev pub got : Hex → List ℕ → Got
got h out = record { answer = h; bytes = out }

-- the digits of a word that stands from a to e, two a byte
abbrev pub hex_word : List ℕ → ℕ → ℕ → List ℕ → Got
hex_word w a e out =
    pick (nat_lt ((e - a) / 2 * 2) (e - a)) (got (Uneven a) out)
    (pick (nat_lt 1024 ((e - a) / 2)) (got (Long a) out)
    (got (Bytes ((e - a) / 2) (record { at = e })) (hex_up_to w ((e - a) / 2) ++ drop ((e - a) / 2) out)))

-- a word, whose digits stop at a place
abbrev pub hex_in : List ℕ → Span → List ℕ → Got
hex_in s p out =
    pick (p.from == p.to) (got End out)
    (pick (nat_lt (run_end s Digits p.from (length s - p.from)) p.to) (got (Strange (run_end s Digits p.from (length s - p.from))) out)
    (hex_word (bytes_in s p) p.from p.to out))

-- the next word from a place on
abbrev pub hex_at : List ℕ → ℕ → List ℕ → Got
hex_at s at out = hex_in s (span_at s at) out
