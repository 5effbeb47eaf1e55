-- Where a line ends, and lines that are joined. Assumes nothing.
use Rattle.std.specs.Prelude.{ℕ, suc, ◌-◌, Bool, true, false, not, ◌&&◌, ◌||◌, List, [], ◌∷◌, ◌++◌, length, take, drop, ◌==◌, nat_le, nat_lt, slice_index, slice_range}
use Rattle.text.specs.Nibble.{pick}
use Rattle.text.specs.Words.{run_end}
use Rattle.text.specs.declared.Run.TheVariants.{Spaces}

abbrev pub is_end : ℕ → Bool
is_end b = b == 10 || b == 13

-- a line end does not end the line right after a backslash, nor as the \n of a \r\n right after one; before it stand `second` and `first`
abbrev pub held : ℕ → ℕ → ℕ → Bool
held second first b = first == 92 || (second == 92 && (first == 13 && b == 10))

abbrev pub ends_line : Bool → ℕ → ℕ → ℕ → Bool
ends_line remark second first b = is_end b && (remark || not (held second first b))

-- how many bytes stand before the one that ends the line
unfoldable pub end_from : Bool → ℕ → ℕ → List ℕ → ℕ
end_from m second first [] = 0
end_from m second first (b ∷ w) = pick (ends_line m second first b) 0 (suc (end_from m first b w))

-- the first byte above 32 is #
abbrev pub remark : List ℕ → Bool
remark w = slice_index w (run_end w Spaces 0 (length w - 0)) == 35

abbrev pub line_end : List ℕ → ℕ
line_end w = end_from (remark w) 0 0 w

abbrev pub joined_byte : ℕ → ℕ → ℕ → ℕ → ℕ
joined_byte second first b next = pick ((is_end b && held second first b) || (b == 92 && is_end next)) 32 b

unfoldable pub join_from : ℕ → ℕ → List ℕ → List ℕ
join_from second first [] = []
join_from second first (b ∷ w) = joined_byte second first b (slice_index w 0) ∷ join_from first b w

abbrev pub joined : List ℕ → List ℕ
joined w = join_from 0 0 w

-- the byte i before the place n, and 0 where there is none
abbrev pub back : List ℕ → ℕ → ℕ → ℕ
back s n i = pick (nat_le i n) (slice_index s (n - i)) 0

-- what is kept of a line that is too long: `x`, and after it the backslash, or the backslash and `\r`, that its last bytes are, so that what
-- comes next ends the line where it would have ended it, and makes no remark of it
abbrev pub kept_if : Bool → Bool → List ℕ
kept_if true u = 120 ∷ 92 ∷ []
kept_if false true = 120 ∷ 92 ∷ 13 ∷ []
kept_if false false = 120 ∷ []

abbrev pub kept_of : ℕ → ℕ → List ℕ
kept_of second first = kept_if (first == 92) (second == 92 && first == 13)

abbrev pub kept_at : List ℕ → ℕ → List ℕ
kept_at s n = kept_of (back s n 2) (back s n 1)

-- the bytes from one place to another
abbrev pub between : List ℕ → ℕ → ℕ → List ℕ
between s from to = slice_range s from to

abbrev pub joined_in : List ℕ → ℕ → ℕ → List ℕ
joined_in s from to = take from s ++ (joined (between s from to) ++ drop to s)

-- a control character but a tab
abbrev pub control : ℕ → Bool
control b = (nat_lt b 32 && not (b == 9)) || b == 127
