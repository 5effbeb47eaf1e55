-- What a bid is of each product: `T LOTS P`, or `T W X P` for one lot. Assumes nothing.
use Rattle.std.specs.Prelude.{Bool, cond, List, ℕ, zero, suc, ◌+◌, length, set, replicate, ltb, eqb}
use Rattle.std.specs.declared.result.Result.{Result}
use Rattle.std.specs.declared.result.Result.TheVariants.{Ok, Err}
use Rattle.text.specs.declared.Cursor.{Cursor}
use Rattle.text.specs.declared.Span.{Span}
use Rattle.text.specs.Words.{span_at}
use Rattle.text.specs.Number.{take_at}
use Rattle.rules.specs.declared.Line.{Line}
use Rattle.rules.specs.declared.Lots.{Lots}
use Rattle.rules.specs.Lots.{lot, no_lot, lots}
use Rattle.rules.specs.Card.{line, no_line}
use Rattle.asked.specs.Asked.{byte_of, pair_of}
use Rattle.asked.specs.Typed.{by_take}
use Rattle.asked.specs.Lots.{wrong, and_then, lots_in}
use Rattle.asked.specs.declared.lots.Fault.TheVariants as fault
use Rattle.asked.specs.declared.lots.Wrong.{Wrong}

-- the next word as a number
unfoldable pub number_at : List ℕ → Cursor → Result (ℕ × Cursor) Wrong
number_at s c =
    by_take (take_at s c.at) (λ n after. Ok (n, after)) (wrong fault.Large) (wrong fault.NotANumber) (wrong fault.Short (length s))

-- W tranches at the one exit price X, used or not
abbrev pub first_lot : ℕ → ℕ → Lots
first_lot n x = lots (lot (pair_of n) x) no_lot no_lot no_lot

unfoldable pub exit_after : List ℕ → Cursor → ℕ → Result (Lots × Cursor) Wrong
exit_after s c n = and_then (number_at s c) (λ x. Ok (first_lot n x.0, x.1))

abbrev pub lots_within : List ℕ → Span → Result (Lots × Cursor) Wrong
lots_within s w = and_then (lots_in s w.from w.to) (λ l. Ok (l, record { at = w.to }))

-- the next word as lots
unfoldable pub lots_at : List ℕ → Cursor → Result (Lots × Cursor) Wrong
lots_at s c = lots_within s (span_at s c.at)

-- lots; where the next word is a number, one lot with the number after it
unfoldable pub leaving_at : List ℕ → Cursor → Result (Lots × Cursor) Wrong
leaving_at s c =
    by_take (take_at s c.at) (λ n after. exit_after s after n) (wrong fault.Large) (λ p. lots_at s c) (wrong fault.Short (length s))

-- a product's line, from its words
unfoldable pub group_at : List ℕ → Cursor → Result (Line × Cursor) Wrong
group_at s c =
    and_then (number_at s c)
    (λ t. and_then (leaving_at s t.1)
    (λ l. and_then (number_at s l.1) (λ k. Ok (line (pair_of t.0) l.0 (byte_of k.0), k.1))))

abbrev pub by_group : {A : Type 0} → Result (Line × Cursor) Wrong → (Line → Cursor → A) → A → A
by_group (Ok g) given other = given g.0 g.1
by_group (Err e) given other = other

-- how many products a bid has, and the line of each
pub record Grouped : Type 0 where
  pub count : ℕ
  pub lines : List Line

abbrev pub grouped : ℕ → List Line → Grouped
grouped n ls = record { count = n; lines = ls }

-- nothing but spaces is left
abbrev pub is_over : List ℕ → Cursor → Bool
is_over s c = eqb (span_at s c.at).from (span_at s c.at).to

-- n lines are there, and at most `left` more are put after them
unfoldable pub groups_from : List ℕ → Cursor → ℕ → ℕ → List Line → Grouped
groups_from s c n zero ls = grouped n ls
groups_from s c n (suc left) ls =
    cond (is_over s c) (grouped n ls)
    (by_group (group_at s c) (λ l after. groups_from s after (n + 1) left (set ls n l)) (grouped n ls))

-- as many as a card has products
abbrev pub most_of : ℕ → ℕ
most_of most = cond (ltb most 8) most 8

-- those that were not given are empty
unfoldable pub groups_at : List ℕ → Cursor → ℕ → Grouped
groups_at s c most = groups_from s c 0 (most_of most) (replicate 8 no_line)
