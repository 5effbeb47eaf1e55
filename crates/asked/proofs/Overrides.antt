-- One more override, and each way to stop: then those read so far are the answer z. Assumes nothing.
use mathlib.Core.Path.{◌≡◌, sym, ◌∙◌}
use mathlib.Core.Bool.{Bool, true, false}
use mathlib.Core.List.{List}
use Prim.Native.Nat.{ℕ, suc, ◌+◌, ◌-◌, ◌≤◌, ◌<◌}
use native.Mathlib.Omega.{arith}
use borrow.Author.Tests.{lt-ltb, le-ltb}
use lib.ListN.{set}
use Rattle.text.specs.declared.Cursor.{Cursor}
use Rattle.text.specs.declared.number.Take.{Take}
use Rattle.text.specs.declared.number.Take.TheVariants as take
use Rattle.text.specs.Number.{take_at}
use Rattle.rules.specs.Price.{Override, is_given}
use Rattle.rules.specs.Round.{override_for}
use Rattle.asked.specs.declared.overriding.Points.{Points}
use Rattle.asked.specs.declared.overriding.Points.TheVariants as points
use Rattle.asked.specs.Overrides.{points_at, chosen, overrides_from}

pub at_limit : (s : List ℕ) (c : Cursor) (n : ℕ) (os z : List Override) → 9 ≤ n → overrides_from s c (9 - n) os ≡ z → os ≡ z
unfolding overrides_from
at_limit s c n os z h i = let f : 9 - n ≡ 0 = omega arith in rw f at i

module _ (s : List ℕ) (c : Cursor) (n : ℕ) (os z : List Override) {t : Take} (h : n < 9) (i : overrides_from s c (9 - n) os ≡ z)
    (e : t ≡ take_at s c.at) where
  pub at_large : (q : ℕ) → t ≡ take.TooLarge q → os ≡ z
  unfolding overrides_from
  at_large q d = let f : 9 - n ≡ suc (9 - (n + 1)) = omega arith in rw (f, sym e ∙ d) at i

  pub at_other : (q : ℕ) → t ≡ take.NotANumber q → os ≡ z
  unfolding overrides_from
  at_other q d = let f : 9 - n ≡ suc (9 - (n + 1)) = omega arith in rw (f, sym e ∙ d) at i

  pub at_end : t ≡ take.End → os ≡ z
  unfolding overrides_from
  at_end d = let f : 9 - n ≡ suc (9 - (n + 1)) = omega arith in rw (f, sym e ∙ d) at i

  module _ (p : ℕ) (next : Cursor) (d : t ≡ take.Number p next) where
    pub no_product : 7 < p → os ≡ z
    unfolding overrides_from
    no_product k = let f : 9 - n ≡ suc (9 - (n + 1)) = omega arith in rw (f, sym e ∙ d, lt-ltb 7 p k) at i

    module _ {b : Bool} (k : p ≤ 7) (g : b ≡ is_given (override_for os p)) where
      pub twice : b ≡ true → os ≡ z
      unfolding overrides_from
      twice j = let f : 9 - n ≡ suc (9 - (n + 1)) = omega arith in rw (f, sym e ∙ d, le-ltb 7 p k, sym g ∙ j) at i

      module _ {v : Points} (j : b ≡ false) (l : v ≡ points_at s next) where
        pub no_points : (q : ℕ) → v ≡ points.NotANumber q → os ≡ z
        unfolding overrides_from
        no_points q m =
            let f : 9 - n ≡ suc (9 - (n + 1)) = omega arith in rw (f, sym e ∙ d, le-ltb 7 p k, sym g ∙ j, sym l ∙ m) at i

        pub missing : v ≡ points.End → os ≡ z
        unfolding overrides_from
        missing m =
            let f : 9 - n ≡ suc (9 - (n + 1)) = omega arith in rw (f, sym e ∙ d, le-ltb 7 p k, sym g ∙ j, sym l ∙ m) at i

        pub one_more : (x : ℕ) (after : Cursor) → v ≡ points.Given x after
            → overrides_from s after (9 - (n + 1)) (set os p (chosen x)) ≡ z
        unfolding overrides_from
        one_more x after m =
            let f : 9 - n ≡ suc (9 - (n + 1)) = omega arith in rw (f, sym e ∙ d, le-ltb 7 p k, sym g ∙ j, sym l ∙ m) at i
