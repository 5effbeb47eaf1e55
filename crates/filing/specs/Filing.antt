-- The answer to a card, and the bytes that it leaves. Assumes nothing.
use Rattle.std.specs.Prelude.{◌≡◌, cond, List, ℕ, eqb}
use Rattle.rules.specs.Answers.{Answer, answer_from}
use Rattle.rules.specs.Calls.{card_number, after_card}
use Rattle.rules.specs.Layout.{loaded, stored}

-- the state s, the card c; z are the bytes after
pub record Files (s c : List ℕ) (r : Answer) (z : List ℕ) : Type 0 where
  pub answer : r ≡ answer_from (card_number c (loaded s))
  pub bytes : z ≡ cond (eqb (card_number c (loaded s)) 0) (stored (after_card c (loaded s))) s
