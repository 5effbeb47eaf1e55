-- Words of a line: a byte up to 32 is a space. Assumes nothing.
use Rattle.std.specs.Prelude.{ℕ, zero, suc, ◌+◌, ◌-◌, Bool, List, length, take, drop, nat_le, nat_lt, slice_index}
use Rattle.text.specs.Nibble.{pick, nibble_of}
use Rattle.text.specs.declared.Span.{Span}
use Rattle.text.specs.declared.Run.{Run}
use Rattle.text.specs.declared.Run.TheVariants.{Spaces, Letters, Digits}

-- whether a byte belongs to a run
abbrev pub goes_on : ℕ → Run → Bool
goes_on b Spaces = nat_le b 32
goes_on b Letters = nat_lt 32 b
goes_on b Digits = nat_lt (nibble_of b) 16

-- the end of the run that starts at `at`, where `left` bytes are left
unfoldable pub run_end : List ℕ → Run → ℕ → ℕ → ℕ
run_end s run at zero = at
run_end s run at (suc left) = pick (goes_on (slice_index s at) run) (run_end s run (at + 1) left) at

-- the first word from `at` on
abbrev pub span_from : List ℕ → ℕ → ℕ → Span
span_from s n a = record { from = a; to = run_end s Letters a (n - a) }

abbrev pub span_at : List ℕ → ℕ → Span
span_at s at =
    pick (nat_lt (length s) at) (record { from = length s; to = length s })
    (span_from s (length s) (run_end s Spaces at (length s - at)))

-- the bytes of a word
abbrev pub bytes_in : List ℕ → Span → List ℕ
bytes_in s p = take (p.to - p.from) (drop p.from s)
