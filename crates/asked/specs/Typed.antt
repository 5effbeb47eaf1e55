-- The numbers that stand one after the other in a line, and the array that they are put into. Assumes nothing.
use Rattle.std.specs.Prelude.{cond, List, ℕ, zero, suc, ◌+◌, ◌-◌, set, ltb}
use Rattle.text.specs.declared.Cursor.{Cursor}
use Rattle.text.specs.declared.number.Take.{Take}
use Rattle.text.specs.declared.number.Take.TheVariants as take
use Rattle.text.specs.Number.{take_at}
use Rattle.std.specs.declared.result.Result.{Result}
use Rattle.std.specs.declared.result.Result.TheVariants.{Ok, Err}

pub record Typed : Type 0 where
  pub found : Result (ℕ × Cursor) ℕ
  pub numbers : List ℕ

abbrev pub typed : Result (ℕ × Cursor) ℕ → List ℕ → Typed
typed f ns = record { found = f; numbers = ns }

-- by what stands at a place: a number and the place after it; one too large; another word; nothing
abbrev pub by_take : {A : Type 0} → Take → (ℕ → Cursor → A) → (ℕ → A) → (ℕ → A) → A → A
by_take (take.Number v next) number large other end = number v next
by_take (take.TooLarge p) number large other end = large p
by_take (take.NotANumber p) number large other end = other p
by_take take.End number large other end = end

-- n numbers are in the array, and at most `left` more are put after them
unfoldable pub typed_from : List ℕ → Cursor → ℕ → ℕ → List ℕ → Typed
typed_from s c n zero out = typed (Ok (n, c)) out
typed_from s c n (suc left) out =
    by_take (take_at s c.at)
    (λ v next. typed_from s next (n + 1) left (set out n v))
    (λ p. typed (Err p) out)
    (λ p. typed (Ok (n, record { at = p })) out)
    (typed (Ok (n, c)) out)

abbrev pub limit_of : ℕ → ℕ
limit_of most = cond (ltb most 40) most 40

-- n numbers are in the array; with them at most `most`, or as many as it has places for
unfoldable pub typed_after : List ℕ → Cursor → ℕ → ℕ → List ℕ → Typed
typed_after s c n most out = typed_from s c n (limit_of most - n) out

abbrev pub typed_at : List ℕ → Cursor → ℕ → List ℕ → Typed
typed_at s c most out = typed_after s c 0 most out
