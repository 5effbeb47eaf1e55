-- What is known of the elements that `from_fn` makes, and of all elements of a list, number by number. Assumes nothing.
use mathlib.Core.Bool.{Bool, ◌&&◌}
use mathlib.Core.List.{List}
use mathlib.Core.Path.{◌≡◌, refl, sym, ◌∙◌, ap, subst}
use Prim.Native.Nat.{ℕ, zero, suc, ◌+◌, ◌≤◌, ◌<◌}
use native.Mathlib.Omega.{arith}
use denote.Param.Members.{Mut}
use native.Mathlib.Numerals.{add-one}
use lib.ListN.{get_or, length, take}
use lib.Seq.{take_all}
use Rattle.std.specs.Array.{IsFromFnResult, IsFromFnResultFrom}
use Rattle.std.specs.Fn.{Called}
use Rattle.std.specs.List.{list_all}
use Rattle.std.proofs.lemmas.List.Folds.{list_all_more}
use Rattle.rules.specs.Count.{all_up_to, list_of}
use Rattle.rules.proofs.Lists.{list_is}

module _ {F B : Type 0} {g : Mut F (ℕ × Unit {0}) B} {s : F} (P : ℕ → B → Type 0) (m : ℕ) (tells : (i : ℕ) (y : B) (q : F) → i < m → Called g s (i, tt) y q → (q ≡ s) × P i y) where
  each_from : (ys : List B) (k n : ℕ) → k + n ≤ m → IsFromFnResultFrom g s ys k n → (i : ℕ) (d : B) → i < n → P (k + i) (get_or ys (k + i) d)
  each_from ys k zero l h i d b = absurd (let x : ⊥ = omega arith in x)
  each_from ys k (suc n) l h zero d b =
      let e : k + 0 ≡ k = omega arith in
      rw e (subst (P k) (sym (h.2.1 d)) (tells k h.1 h.0 (omega arith) h.3).1)
  each_from ys k (suc n) l h (suc i) d b =
      let e : k + suc i ≡ k + 1 + i = omega arith in
      rw e (each_from ys (k + 1) n (omega arith) (subst (λ q. IsFromFnResultFrom g q ys (k + 1) n) (tells k h.1 h.0 (omega arith) h.3).0 h.4) i d (omega arith))

  pub made_each : {ys : List B} → IsFromFnResult g s ys m → (i : ℕ) (d : B) → i < m → P i (get_or ys i d)
  made_each {ys} h i d l = let e : 0 + i ≡ i = omega arith in rw e at (each_from ys 0 m (omega arith) h.each i d l)

-- made of a function, they are its list
pub made : {F B : Type 0} {g : Mut F (ℕ × Unit {0}) B} {s : F} (f : ℕ → B) (m : ℕ)
    → ((i : ℕ) (y : B) (q : F) → i < m → Called g s (i, tt) y q → (q ≡ s) × (y ≡ f i)) → {ys : List B} → IsFromFnResult g s ys m → ys ≡ list_of f m
made f m tells {ys} h = list_is f (f 0) m ys h.long (λ i l. made_each (λ i y. y ≡ f i) m tells h i (f 0) l)

-- all of a list
module _ {A : Type 0} (test : A → Bool) (xs : List A) (d : A) where
  all_taken : (k : ℕ) → k ≤ length xs → list_all test (take k xs) ≡ all_up_to (λ i. test (get_or xs i d)) k
  unfolding all_up_to
  all_taken zero l = refl
  all_taken (suc k) l =
      ap (λ n. list_all test (take n xs)) (sym (add-one k)) ∙ list_all_more test xs k d (omega arith)
      ∙ ap (λ t. t && test (get_or xs k d)) (all_taken k (omega arith))

  pub all_listed : (n : ℕ) → length xs ≡ n → list_all test xs ≡ all_up_to (λ i. test (get_or xs i d)) n
  all_listed n e = ap (list_all test) (sym (take_all n xs (omega arith))) ∙ all_taken n (omega arith)
