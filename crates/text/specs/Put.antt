-- A text put at a place of a line. Assumes nothing.
use Rattle.std.specs.Prelude.{ℕ, ◌+◌, cond, List, length, nat_le}
use Rattle.std.proofs.Math.Seq.{paste}

-- the place after it, and the whole array
pub record Line : Type 0 where
  pub next : ℕ
  pub bytes : List ℕ

-- as many bytes as an answer has room for
abbrev pub answer_length : ℕ
answer_length = 65536

-- all of it where it fits, and otherwise nothing
abbrev pub put_at : List ℕ → ℕ → List ℕ → Line
put_at out at w =
    cond (nat_le (at + length w) answer_length) (record { next = at + length w; bytes = paste out at w (length w) })
    (record { next = at; bytes = out })
