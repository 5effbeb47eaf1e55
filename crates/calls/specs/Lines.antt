-- What a line leaves of the state: by its first word one call, and which. Assumes nothing.
use Rattle.std.specs.Prelude.{ℕ, ◌≡◌, ◌⊎◌, List, [], ◌∷◌}
use Rattle.rules.specs.Uses.{opens, files, counts, calculates, calculates_plain, cuts, reports, results, reads, writes, suggests, Use, called, returned, used}
use Rattle.text.specs.Words.{span_at, bytes_in}

-- `open`, `file`, `bid`, `calculate`, `cutback`, `return`, `undo`
abbrev pub open_word : List ℕ
open_word = 111 ∷ 112 ∷ 101 ∷ 110 ∷ []

abbrev pub file_word : List ℕ
file_word = 102 ∷ 105 ∷ 108 ∷ 101 ∷ []

abbrev pub bid_word : List ℕ
bid_word = 98 ∷ 105 ∷ 100 ∷ []

abbrev pub calculate_word : List ℕ
calculate_word = 99 ∷ 97 ∷ 108 ∷ 99 ∷ 117 ∷ 108 ∷ 97 ∷ 116 ∷ 101 ∷ []

abbrev pub cutback_word : List ℕ
cutback_word = 99 ∷ 117 ∷ 116 ∷ 98 ∷ 97 ∷ 99 ∷ 107 ∷ []

abbrev pub return_word : List ℕ
return_word = 114 ∷ 101 ∷ 116 ∷ 117 ∷ 114 ∷ 110 ∷ []

abbrev pub undo_word : List ℕ
undo_word = 117 ∷ 110 ∷ 100 ∷ 111 ∷ []

-- the call that a command's word names
abbrev pub Names : List ℕ → Use → Type 0
Names w (called (opens x) h) = w ≡ open_word
Names w (called (files c) h) = (w ≡ file_word) ⊎ (w ≡ bid_word)
Names w (called counts h) = ⊥
Names w (called (calculates draw os) h) = w ≡ calculate_word
Names w (called (calculates_plain draw os order) h) = w ≡ calculate_word
Names w (called (cuts targets caps) h) = w ≡ cutback_word
Names w (called (reports b) h) = ⊥
Names w (called results h) = ⊥
Names w (called (reads c n) h) = ⊥
Names w (called (writes room n b r ls) h) = ⊥
Names w (called (suggests bid ratio) h) = ⊥
Names w returned = w ≡ return_word

-- t is s as it was, or what the one call that the word names leaves of s
abbrev pub Made : List ℕ → List ℕ → List ℕ → Type 0
Made w s t = (t ≡ s) ⊎ ((u : Use) × (Names w u × (t ≡ used s (u ∷ []))))

-- the same of a command; `undo` alone leaves what was kept beside the box, which no call makes
abbrev pub Left : List ℕ → List ℕ → List ℕ → Type 0
Left w s t = Made w s t ⊎ (w ≡ undo_word)

-- the first word of a line
abbrev pub first_word : List ℕ → List ℕ
first_word line = bytes_in line (span_at line 0)

-- a line that was answered, and the state after it
pub record Step : Type 0 where
  pub line : List ℕ
  pub state : List ℕ

abbrev pub Steps : List ℕ → List Step → List ℕ → Type 0
Steps s [] t = t ≡ s
Steps s (x ∷ xs) t = Left (first_word x.line) s x.state × Steps x.state xs t

-- t is what lines, answered one after the other, leave of s
abbrev pub Served : List ℕ → List ℕ → Type 0
Served s t = (xs : List Step) × Steps s xs t

-- no line is an `undo`
abbrev pub NoUndo : List Step → Type 0
NoUndo [] = Unit {0}
NoUndo (x ∷ xs) = (first_word x.line ≡ undo_word → ⊥) × NoUndo xs
