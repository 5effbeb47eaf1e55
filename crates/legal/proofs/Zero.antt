-- A slot's lines, and which of them are 0. Assumes nothing.
use mathlib.Core.Path.{◌≡◌, refl}
use mathlib.Core.List.{List}
use mathlib.Core.Bool.{Bool, true, false, ◌&&◌, ◌||◌}
use Prim.Native.Nat.{ℕ, zero-le}
use borrow.Author.Tests.{le-ltb}
use lib.Dec.{ltb}
use Rattle.rules.specs.declared.Line.{Line}
use Rattle.rules.specs.Card.{line_zero}
use Rattle.rules.specs.Count.{all_up_to}
use Rattle.rules.specs.Bid.{on_product}
use Rattle.rules.specs.Legal.{zero_from}
use Rattle.rules.proofs.Lists.{all_ext}
use Rattle.held.proofs.Found.{or_is}

-- the lines of a slot that is not filed are asked, and of a filed one those past the products
abbrev pub zero_on : ℕ → Bool → List Line → ℕ → Bool
zero_on n filed ls p = (filed && ltb p n) || line_zero (on_product ls p)

pub filed_zero : (ls : List Line) (n : ℕ) → all_up_to (zero_on n true ls) 8 ≡ zero_from ls n
filed_zero ls n = all_ext _ _ 8 (λ p h. or_is {t = ltb p n} refl refl)

pub unfiled_zero : (ls : List Line) (n : ℕ) → all_up_to (zero_on n false ls) 8 ≡ zero_from ls 0
unfiled_zero ls n = all_ext _ _ 8 (λ p h. rw (le-ltb p 0 zero-le) refl)
