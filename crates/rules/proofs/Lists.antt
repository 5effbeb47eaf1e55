-- Laws of tests over the first n numbers, and of lists made from a function. Assumes nothing.
use mathlib.Core.Path.{◌≡◌, refl, sym, ◌∙◌, ap, ap₂, subst}
use mathlib.Core.Bool.{Bool, true, false, ◌&&◌}
use mathlib.Core.List.{List, [], ◌∷◌, ◌++◌}
use Prim.Native.Nat.{ℕ, zero, suc, ◌+◌, ◌<◌}
use native.Mathlib.Omega.{arith}
use native.Mathlib.Numerals.{add-one}
use borrow.Author.Tests.{eqb-true, eqb-false}
use lib.ListN.{length, get_or}
use lib.Seq.{ext_get_or}
use lib.Dec.{eqb}
use Rattle.rules.specs.Count.{all_up_to, from, list_of}
use Rattle.rules.proofs.Sums.{and_left, and_right}

-- what cannot be both
pub clash : {A : Type 0} {t : Bool} → t ≡ true → t ≡ false → A
clash e f = let z : ◌≡◌ {A = ℕ} 0 1 = cc in absurd (let x : ⊥ = omega arith in x)

pub both : {a b : Bool} → a ≡ true → b ≡ true → (a && b) ≡ true
both {a} {b} p q = rw p q

-- ---- a test of each of the first n

module _ (test : ℕ → Bool) where
  -- one more
  pub all_more : (i : ℕ) → all_up_to test i ≡ true → test i ≡ true → all_up_to test (i + 1) ≡ true
  unfolding all_up_to
  all_more i p q = rw add-one (both p q)

  pub all_give : (n : ℕ) → ((i : ℕ) → i < n → test i ≡ true) → all_up_to test n ≡ true
  unfolding all_up_to
  all_give zero h = refl
  all_give (suc n) h = both (all_give n (λ i l. h i (omega arith))) (h n (omega arith))

  pub all_take : (n : ℕ) → all_up_to test n ≡ true → (i : ℕ) → i < n → test i ≡ true
  unfolding all_up_to
  all_take zero e i l = absurd (let x : ⊥ = omega arith in x)
  all_take (suc n) e i l =
      by (eqb i n) refl (all_take n (and_left (all_up_to test n) (test n) e) i) (and_right (all_up_to test n) (test n) e)
    where
      by : (t : Bool) → eqb i n ≡ t → (i < n → test i ≡ true) → test n ≡ true → test i ≡ true
      by true f r q = subst (λ x. test x ≡ true) (sym (eqb-true i n f)) q
      by false f r q = let d = eqb-false i n f in r (omega (arith, d))

  not_all_by : (n i : ℕ) → i < n → test i ≡ false → (t : Bool) → all_up_to test n ≡ t → t ≡ false
  not_all_by n i l e true f = clash (all_take n f i l) e
  not_all_by n i l e false f = refl

  -- one fails, so not all pass
  pub not_all : (n i : ℕ) → i < n → test i ≡ false → all_up_to test n ≡ false
  not_all n i l e = not_all_by n i l e (all_up_to test n) refl

-- the same test, number by number
pub all_ext : (f g : ℕ → Bool) (n : ℕ) → ((i : ℕ) → i < n → f i ≡ g i) → all_up_to f n ≡ all_up_to g n
unfolding all_up_to
all_ext f g zero h = refl
all_ext f g (suc n) h = ap₂ ◌&&◌ (all_ext f g n (λ i l. h i (omega arith))) (h n (omega arith))

-- ---- a list of f 0, f 1, ..

module _ {A : Type 0} (f : ℕ → A) where
  from_at : (d : A) (n i k : ℕ) → k < n → get_or (from f i n) k d ≡ f (i + k)
  unfolding from
  from_at d zero i k l = absurd (let x : ⊥ = omega arith in x)
  from_at d (suc n) i zero l = ap f (omega arith)
  from_at d (suc n) i (suc k) l = from_at d n (suc i) k (omega arith) ∙ ap f (omega arith)

  pub list_at : (d : A) (n k : ℕ) → k < n → get_or (list_of f n) k d ≡ f k
  list_at d n k l = from_at d n 0 k l ∙ ap f (omega arith)

  from_long : (i n : ℕ) → length (from f i n) ≡ n
  unfolding from
  from_long i zero = refl
  from_long i (suc n) = ap suc (from_long (suc i) n)

  pub list_long : (n : ℕ) → length (list_of f n) ≡ n
  list_long n = from_long 0 n

  from_more : (i n : ℕ) → from f i (suc n) ≡ from f i n ++ (f (i + n) ∷ [])
  unfolding from
  from_more i zero = ap (λ k. f k ∷ []) (omega arith)
  from_more i (suc n) = ap (λ l. f i ∷ l) (from_more (suc i) n ∙ ap (λ k. from f (suc i) n ++ (f k ∷ [])) (omega arith))

  -- one more at the end, as a loop makes it
  pub list_more : (n : ℕ) → list_of f (n + 1) ≡ list_of f n ++ (f n ∷ [])
  list_more n = rw add-one (from_more 0 n ∙ ap (λ k. list_of f n ++ (f k ∷ [])) (omega arith))

  -- a list that has f at every place is that list
  pub list_is : (d : A) (n : ℕ) (l : List A) → length l ≡ n → ((i : ℕ) → i < n → get_or l i d ≡ f i) → l ≡ list_of f n
  list_is d n l e h =
      ext_get_or d l (list_of f n) (e ∙ sym (list_long n)) (λ i k. h i (omega arith) ∙ sym (list_at d n i (omega arith)))

from_ext : {A : Type 0} (f g : ℕ → A) (n i : ℕ) → ((j : ℕ) → j < i + n → f j ≡ g j) → from f i n ≡ from g i n
unfolding from
from_ext f g zero i h = refl
from_ext f g (suc n) i h = ap₂ ◌∷◌ (h i (omega arith)) (from_ext f g n (suc i) (λ j l. h j (omega arith)))

-- the same function, number by number, makes the same list
pub list_ext : {A : Type 0} (f g : ℕ → A) (n : ℕ) → ((i : ℕ) → i < n → f i ≡ g i) → list_of f n ≡ list_of g n
list_ext f g n h = from_ext f g n 0 (λ j l. h j (omega arith))
