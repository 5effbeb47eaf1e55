-- The overrides that stand after a draw, one pair after the other. Assumes nothing.
use Rattle.std.specs.Prelude.{cond, List, ℕ, zero, suc, set, ltb, Some}
use Rattle.text.specs.declared.Cursor.{Cursor}
use Rattle.text.specs.Words.{span_at}
use Rattle.text.specs.Number.{take_at}
use Rattle.rules.specs.Price.{Override, is_given}
use Rattle.rules.specs.Round.{override_for}
use Rattle.rules.specs.Units.{points as basis_points}
use Rattle.asked.specs.Asked.{pair_of}
use Rattle.asked.specs.Typed.{by_take}
use Rattle.asked.specs.declared.overriding.Points.{Points}
use Rattle.asked.specs.declared.overriding.Points.TheVariants as points

-- the next word as a decrement: a number of any length, in 16 bits
unfoldable pub points_at : List ℕ → Cursor → Points
points_at s c =
    by_take (take_at s c.at)
    (λ v next. points.Given (pair_of v) next)
    (λ p. points.Given 65535 (record { at = (span_at s c.at).to }))
    points.NotANumber
    points.End

abbrev pub by_points : {A : Type 0} → Points → (ℕ → Cursor → A) → A → A
by_points (points.Given v next) given other = given v next
by_points (points.NotANumber p) given other = other
by_points points.End given other = other

abbrev pub chosen : ℕ → Override
chosen v = Some (basis_points v)

-- pairs of a product, which has none yet, and its decrement, `left` of them at most
unfoldable pub overrides_from : List ℕ → Cursor → ℕ → List Override → List Override
overrides_from s c zero os = os
overrides_from s c (suc left) os =
    by_take (take_at s c.at)
    (λ p next. cond (ltb 7 p) os
    (cond (is_given (override_for os p)) os
    (by_points (points_at s next) (λ v after. overrides_from s after left (set os p (chosen v))) os)))
    (λ p. os) (λ p. os) os
