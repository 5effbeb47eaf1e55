-- `all` and `any` over `0..n` are the tests of the first n numbers. Assumes nothing.
use mathlib.Core.Bool.{Bool, true, false, ◌&&◌, ◌||◌}
use mathlib.Core.List.{List, [], ◌∷◌, ◌++◌}
use mathlib.Core.Path.{◌≡◌, refl, sym, ◌∙◌, ap, ap₂}
use Prim.Native.Nat.{ℕ, zero, suc, ◌+◌, ◌-◌, ◌<◌}
use native.Mathlib.Omega.{arith}
use denote.Param.Members.{Mut}
use Rattle.std.specs.Prelude.{Option, None, Some}
use Rattle.std.specs.Fn.{Called}
use Rattle.std.specs.Option.{MatchOption, is_some}
use Rattle.std.specs.Iterator.{YieldsThen}
use Rattle.std.specs.List.{list_all, list_any, range_with_len, FoldsTo}
use Rattle.std.proofs.lemmas.List.Folds.{list_all-append}
use Rattle.std.proofs.lemmas.Iterator.{YieldsList-from_range}
use Rattle.std.proofs.iter.Yields.{nat_range_steps}
use Rattle.std.proofs.lemmas.Iterator.Search.{all_from_yields_List, any_from_yields_List}
use Rattle.std.specs.declared.ops.Range.{Range}
use Rattle.rules.specs.Count.{all_up_to, better, first_up_to, never}

more : (a n : ℕ) → range_with_len a (suc n) ≡ range_with_len a n ++ (a + n) ∷ []
more a zero = ap (λ k. k ∷ []) (omega arith)
more a (suc n) = ap (λ l. a ∷ l) (more (a + 1) n ∙ ap (λ k. range_with_len (a + 1) n ++ k ∷ []) (omega arith))

-- one number on its own, and then nothing
alone : (i n : ℕ) (test : ℕ → Bool) → i ≡ n → (test i && true) ≡ test n
alone i n test e = and_true (test i) ∙ ap test e
  where
    and_true : (t : Bool) → (t && true) ≡ t
    and_true true = refl
    and_true false = refl

all_range : (test : ℕ → Bool) (n : ℕ) → list_all test (range_with_len 0 n) ≡ all_up_to test n
unfolding all_up_to
all_range test zero = refl
all_range test (suc n) =
    ap (list_all test) (more 0 n) ∙ list_all-append test (range_with_len 0 n) ((0 + n) ∷ [])
    ∙ ap₂ ◌&&◌ (all_range test n) (alone (0 + n) n test (omega arith))

or_more : (t x y z : Bool) → x ≡ y || z → t || x ≡ (t || y) || z
or_more true x y z e = refl
or_more false x y z e = e

any_append : (test : ℕ → Bool) (xs ys : List ℕ) → list_any test (xs ++ ys) ≡ list_any test xs || list_any test ys
any_append test [] ys = refl
any_append test (x ∷ xs) ys = or_more (test x) _ _ _ (any_append test xs ys)

or_alone : (i n : ℕ) (test : ℕ → Bool) → i ≡ n → test i || false ≡ test n
or_alone i n test e = or_false (test i) ∙ ap test e
  where
    or_false : (t : Bool) → t || false ≡ t
    or_false true = refl
    or_false false = refl

any_range : (test : ℕ → Bool) (n : ℕ) → list_any test (range_with_len 0 n) ≡ is_some (first_up_to test n)
any_range test zero = refl
any_range test (suc n) =
    ap (list_any test) (more 0 n) ∙ any_append test (range_with_len 0 n) ((0 + n) ∷ [])
    ∙ ap₂ ◌||◌ (any_range test n) (or_alone (0 + n) n test (omega arith)) ∙ at (first_up_to test n) (test n) refl
  where
    at : (q : Option ℕ) (t : Bool) → test n ≡ t → is_some q || test n ≡ is_some (better test never q n)
    at None true e = rw e
    at None false e = rw e
    at (Some j) true e = rw e
    at (Some j) false e = rw e

module _ {F : Type 0} {g : Mut F (ℕ × Unit {0}) Bool} {s u : Range ℕ} {f : F} {r : Bool} (test : ℕ → Bool) (n : ℕ) (is : s ≡ record { start = 0; end = n }) (computes : (x : ℕ) (b : Bool) (q : F) → Called g f (x, tt) b q → (q ≡ f) × (b ≡ test x)) where
  pub all_below : (xs : List ℕ) × (o : Option ℕ) × (j : F) × YieldsThen nat_range_steps s xs o u × FoldsTo (λ p x q. Called g p (x, tt) true q) f xs j × MatchOption o (r ≡ true) (λ x. (r ≡ false) × ((h : F) × Called g j (x, tt) false h)) → r ≡ all_up_to test n
  all_below ran = all_from_yields_List test u f r ran (YieldsList-from_range 0 n n is (omega arith)) computes ∙ all_range test n

  pub any_below : (xs : List ℕ) × (o : Option ℕ) × (j : F) × YieldsThen nat_range_steps s xs o u × FoldsTo (λ p x q. Called g p (x, tt) false q) f xs j × MatchOption o (r ≡ false) (λ x. (r ≡ true) × ((h : F) × Called g j (x, tt) true h)) → r ≡ is_some (first_up_to test n)
  any_below ran = any_from_yields_List test u f r ran (YieldsList-from_range 0 n n is (omega arith)) computes ∙ any_range test n
