-- The next byte of a kind, a number, a lot and one more of them; each way to stop. Assumes nothing.
use mathlib.Core.Path.{◌≡◌, sym, ◌∙◌}
use mathlib.Core.Bool.{Bool, true, false}
use mathlib.Core.List.{List}
use Prim.Native.Nat.{ℕ, suc, ◌+◌, ◌-◌, ◌≤◌, ◌<◌}
use native.Mathlib.Omega.{arith}
use borrow.Author.Tests.{eq-eqb, ne_eqb, lt-ltb, le-ltb}
use lib.ListN.{get_or}
use Rattle.std.specs.declared.result.Result.{Result}
use Rattle.std.specs.declared.result.Result.TheVariants.{Ok, Err}
use Rattle.text.specs.declared.number.Read.{Read}
use Rattle.text.specs.declared.number.Read.TheVariants as read
use Rattle.text.specs.Lines.{between}
use Rattle.text.specs.Number.{read_word}
use Rattle.rules.specs.declared.Lot.{Lot}
use Rattle.rules.specs.declared.Lots.{Lots}
use Rattle.rules.specs.Lots.{lot, no_lots, put}
use Rattle.asked.specs.declared.lots.Fault.TheVariants as fault
use Rattle.asked.specs.declared.lots.Wrong.{Wrong}
use Rattle.asked.specs.Asked.{pair_of}
use Rattle.asked.specs.Lots.{wrong, and_then, place_of, number_in, lot_in, lot_end, lots_from, is_dash, lots_in}

-- ---- the place of a byte

module _ (s : List ℕ) (b i e : ℕ) where
  pub place_more : i < e → (get_or s i 0 ≡ b → ⊥) → place_of s b i (e - i) ≡ place_of s b (i + 1) (e - (i + 1))
  unfolding place_of
  place_more h n = let f : e - i ≡ suc (e - (i + 1)) = omega arith in rw (f, ne_eqb _ _ n)

  pub place_here : i < e → get_or s i 0 ≡ b → place_of s b i (e - i) ≡ i
  unfolding place_of
  place_here h n = let f : e - i ≡ suc (e - (i + 1)) = omega arith in rw (f, eq-eqb _ _ n)

  pub place_none : e ≤ i → place_of s b i (e - i) ≡ i
  unfolding place_of
  place_none h = let f : e - i ≡ 0 = omega arith in rw f

-- ---- a number

module _ (s : List ℕ) (a e : ℕ) where
  pub no_number : a ≡ e → wrong fault.NoNumber a ≡ number_in s a e
  unfolding number_in
  no_number h = rw (eq-eqb _ _ h)

  module _ {r : Read} (h : a ≡ e → ⊥) (k : r ≡ read_word (between s a e)) where
    pub a_number : (n : ℕ) → r ≡ read.Value n → Ok n ≡ number_in s a e
    unfolding number_in
    a_number n d = rw (ne_eqb _ _ h, sym k ∙ d)

    pub too_large : r ≡ read.Large → wrong fault.Large a ≡ number_in s a e
    unfolding number_in
    too_large d = rw (ne_eqb _ _ h, sym k ∙ d)

    pub not_a_number : r ≡ read.Other → wrong fault.NotANumber a ≡ number_in s a e
    unfolding number_in
    not_a_number d = rw (ne_eqb _ _ h, sym k ∙ d)

-- ---- a lot

module _ (s : List ℕ) (a e : ℕ) where
  pub no_lot_lem : a ≡ e → wrong fault.NoLot a ≡ lot_in s a e
  unfolding lot_in
  no_lot_lem h = rw (eq-eqb _ _ h)

  module _ {k : ℕ} (h : a ≡ e → ⊥) (i : k ≡ place_of s 64 a (e - a)) where
    pub no_at : k ≡ e → wrong fault.NoLots a ≡ lot_in s a e
    unfolding lot_in
    no_at j = rw (ne_eqb a e h, ← i, eq-eqb k e j)

    module _ {m : ℕ} (j : k ≡ e → ⊥) (l : m ≡ place_of s 64 (k + 1) (e - (k + 1))) where
      pub second_at : m < e → wrong fault.SecondAt m ≡ lot_in s a e
      unfolding lot_in
      second_at o = rw (ne_eqb a e h, ← i, ne_eqb k e j, ← l, lt-ltb m e o)

      pub two_numbers : {r : Result Lot Wrong} → e ≤ m → r ≡ and_then (number_in s a k) (λ n. and_then (number_in s (k + 1) e) (λ x. Ok (lot (pair_of n) x)))
          → r ≡ lot_in s a e
      unfolding lot_in
      two_numbers o q = rw (ne_eqb a e h, ← i, ne_eqb k e j, ← l, le-ltb m e o) q

-- ---- lots, where z is what is read in the end

module _ (s : List ℕ) (at e i : ℕ) (l : Lots) (z : Result Lots Wrong) (r : lots_from s at e i (4 - i) l ≡ z) where
  pub fifth_lot : 4 ≤ i → wrong fault.FifthLot at ≡ z
  unfolding lots_from
  fifth_lot h = let f : 4 - i ≡ 0 = omega arith in rw f at r

  module _ {k : ℕ} {x : Result Lot Wrong} (h : i < 4) (j : k ≡ lot_end s at e) (u : x ≡ lot_in s at k) where
    pub wrong_lot : (w : Wrong) → x ≡ Err w → Err w ≡ z
    unfolding lots_from
    wrong_lot w d = let f : 4 - i ≡ suc (4 - (i + 1)) = omega arith in rw (f, ← j, sym u ∙ d) at r

    module _ {v : Lot} {m : Lots} (d : x ≡ Ok v) (q : m ≡ put l i v) where
      pub last_lot : e ≤ k → Ok m ≡ z
      unfolding lots_from
      last_lot g = let f : 4 - i ≡ suc (4 - (i + 1)) = omega arith in rw q (rw (f, ← j, sym u ∙ d, le-ltb k e g) at r)

      pub one_more_lot : k < e → lots_from s (k + 1) e (i + 1) (4 - (i + 1)) m ≡ z
      unfolding lots_from
      one_more_lot g = let f : 4 - i ≡ suc (4 - (i + 1)) = omega arith in rw q (rw (f, ← j, sym u ∙ d, lt-ltb k e g) at r)

-- ---- the whole text

module _ (s : List ℕ) (a e : ℕ) {b : Bool} (d : b ≡ is_dash s a e) where
  pub none : {l : Lots} → b ≡ true → l ≡ no_lots → Ok l ≡ lots_in s a e
  unfolding lots_in
  none h q = rw (sym d ∙ h, q)

  pub some : {z : Result Lots Wrong} → b ≡ false → z ≡ lots_from s a e 0 4 no_lots → z ≡ lots_in s a e
  unfolding lots_in
  some h q = rw (sym d ∙ h, q)
