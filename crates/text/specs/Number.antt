-- A decimal number of 32 bits. Assumes nothing.
use Rattle.std.specs.Prelude.{ℕ, zero, suc, ◌+◌, ◌-◌, ◌*◌, List, length, ◌==◌, nat_le, nat_lt, slice_index}
use Rattle.text.specs.Nibble.{pick}
use Rattle.text.specs.Words.{span_at, bytes_in}
use Rattle.text.specs.declared.Span.{Span}
use Rattle.text.specs.declared.number.Read.{Read}
use Rattle.text.specs.declared.number.Read.TheVariants.{Value, Large, Other}
use Rattle.text.specs.declared.number.Take.{Take}
use Rattle.text.specs.declared.number.Take.TheVariants.{Number, TooLarge, NotANumber, End}

-- a value, where 32 bits hold it
abbrev pub held : ℕ → Read
held w = pick (nat_le w 4294967295) (Value w) Large

-- a digit after what was read
abbrev pub with_digit : Read → ℕ → Read
with_digit (Value v) d = held (v * 10 + d)
with_digit Large d = Large
with_digit Other d = Other

-- a byte after what was read: anything but a digit makes it no number
abbrev pub digit_after : Read → ℕ → Read
digit_after n b = pick (nat_lt b 48) Other (pick (nat_lt 57 b) Other (with_digit n (b - 48)))

-- what the first n bytes of w make
unfoldable pub read_up_to : List ℕ → ℕ → Read
read_up_to w zero = Value 0
read_up_to w (suc n) = digit_after (read_up_to w n) (slice_index w n)

-- what a whole word makes
abbrev pub read_word : List ℕ → Read
read_word w = read_up_to w (length w)

-- what a word from a to e makes
abbrev pub taken : ℕ → ℕ → Read → Take
taken a e (Value v) = Number v (record { at = e })
taken a e Large = TooLarge a
taken a e Other = NotANumber a

abbrev pub take_in : List ℕ → Span → Take
take_in s p =
    pick (p.from == p.to) End
    (taken p.from p.to (read_word (bytes_in s p)))

abbrev pub take_at : List ℕ → ℕ → Take
take_at s at = take_in s (span_at s at)
