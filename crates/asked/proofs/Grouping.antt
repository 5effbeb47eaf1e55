-- The next word as a number or as lots, one more product, and each way to stop. Assumes nothing.
use mathlib.Core.Path.{◌≡◌, sym, ap, ◌∙◌}
use mathlib.Core.List.{List}
use Prim.Native.Nat.{ℕ, suc, ◌+◌, ◌-◌, ◌≤◌, ◌<◌}
use native.Mathlib.Omega.{arith}
use borrow.Author.Tests.{eq-eqb, ne_eqb}
use lib.ListN.{length, set}
use Rattle.std.specs.declared.result.Result.{Result}
use Rattle.std.specs.declared.result.Result.TheVariants.{Ok, Err}
use Rattle.text.specs.declared.Cursor.{Cursor}
use Rattle.text.specs.declared.Span.{Span}
use Rattle.text.specs.declared.number.Take.{Take}
use Rattle.text.specs.declared.number.Take.TheVariants as take
use Rattle.text.specs.Words.{span_at}
use Rattle.text.specs.Number.{take_at}
use Rattle.rules.specs.declared.Line.{Line}
use Rattle.rules.specs.declared.Lots.{Lots}
use Rattle.asked.specs.declared.lots.Fault.TheVariants as fault
use Rattle.asked.specs.declared.lots.Wrong.{Wrong}
use Rattle.asked.specs.Lots.{wrong}
use Rattle.asked.specs.Groups.{number_at, first_lot, exit_after, lots_at, leaving_at, group_at, Grouped, groups_from}

-- ---- a number

module _ (s : List ℕ) (c : Cursor) {t : Take} (e : t ≡ take_at s c.at) where
  pub is_number : (n : ℕ) (after : Cursor) → t ≡ take.Number n after → Ok (n, after) ≡ number_at s c
  unfolding number_at
  is_number n after d = rw (sym e ∙ d)

  pub is_large : (p : ℕ) → t ≡ take.TooLarge p → wrong fault.Large p ≡ number_at s c
  unfolding number_at
  is_large p d = rw (sym e ∙ d)

  pub is_other : (p : ℕ) → t ≡ take.NotANumber p → wrong fault.NotANumber p ≡ number_at s c
  unfolding number_at
  is_other p d = rw (sym e ∙ d)

  pub is_end_lem : t ≡ take.End → wrong fault.Short (length s) ≡ number_at s c
  unfolding number_at
  is_end_lem d = rw (sym e ∙ d)

-- ---- what is withdrawn

pub an_exit : (s : List ℕ) (c : Cursor) (n z : ℕ) (after : Cursor) {l : Lots} → Ok (z, after) ≡ number_at s c → l ≡ first_lot n z → Ok (l, after) ≡ exit_after s c n
unfolding exit_after
an_exit s c n z after e q = rw (← e, q)

module _ (s : List ℕ) (c : Cursor) {t : Take} (e : t ≡ take_at s c.at) where
  pub one_lot_lem : {x : Result (Lots × Cursor) Wrong} (n : ℕ) (after : Cursor) → t ≡ take.Number n after → x ≡ exit_after s after n → x ≡ leaving_at s c
  unfolding leaving_at
  one_lot_lem n after d q = rw (sym e ∙ d, q)

  pub large_lot : (p : ℕ) → t ≡ take.TooLarge p → wrong fault.Large p ≡ leaving_at s c
  unfolding leaving_at
  large_lot p d = rw (sym e ∙ d)

  pub typed_lots : {x : Result (Lots × Cursor) Wrong} (p : ℕ) → t ≡ take.NotANumber p → x ≡ lots_at s c → x ≡ leaving_at s c
  unfolding leaving_at
  typed_lots p d q = rw (sym e ∙ d, q)

  pub missing_lots : t ≡ take.End → wrong fault.Short (length s) ≡ leaving_at s c
  unfolding leaving_at
  missing_lots d = rw (sym e ∙ d)

-- ---- products, where z is what is read in the end

abbrev pub Answers : ℕ → List Line → Grouped → Type 0
Answers n ls z = (n ≡ z.count) × (ls ≡ z.lines)

module _ (s : List ℕ) (c : Cursor) (n top : ℕ) (ls : List Line) (z : Grouped) (i : groups_from s c n (top - n) ls ≡ z) where
  pub at_limit : top ≤ n → Answers n ls z
  unfolding groups_from
  at_limit h =
      let f : top - n ≡ 0 = omega arith in
      let j = rw f at i in
      (ap (λ (x : Grouped). x.count) j, ap (λ (x : Grouped). x.lines) j)

  module _ {w : Span} (h : n < top) (e : w ≡ span_at s c.at) where
    pub at_end : w.from ≡ w.to → Answers n ls z
    unfolding groups_from
    at_end o =
        let f : top - n ≡ suc (top - (n + 1)) = omega arith in
        let j = rw (f, ← e, eq-eqb w.from w.to o) at i in
        (ap (λ (x : Grouped). x.count) j, ap (λ (x : Grouped). x.lines) j)

    module _ {x : Result (Line × Cursor) Wrong} (o : w.from ≡ w.to → ⊥) (u : x ≡ group_at s c) where
      pub at_wrong : (g : Wrong) → x ≡ Err g → Answers n ls z
      unfolding groups_from
      at_wrong g d =
          let f : top - n ≡ suc (top - (n + 1)) = omega arith in
          let j = rw (f, ← e, ne_eqb w.from w.to o, sym u ∙ d) at i in
          (ap (λ (x : Grouped). x.count) j, ap (λ (x : Grouped). x.lines) j)

      pub one_more : (l : Line) (after : Cursor) → x ≡ Ok (l, after) → groups_from s after (n + 1) (top - (n + 1)) (set ls n l) ≡ z
      unfolding groups_from
      one_more l after d =
          let f : top - n ≡ suc (top - (n + 1)) = omega arith in rw (f, ← e, ne_eqb w.from w.to o, sym u ∙ d) at i
