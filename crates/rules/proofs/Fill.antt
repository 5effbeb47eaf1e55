-- A list that a loop fills place by place. Assumes nothing.
use mathlib.Core.Path.{◌≡◌, refl, sym, ◌∙◌, ap₂}
use mathlib.Core.List.{List, [], ◌∷◌, ◌++◌}
use Prim.Native.Nat.{ℕ, ◌+◌, ◌≤◌, ◌<◌}
use native.Mathlib.Numerals.{add-one}
use native.Mathlib.Omega.{arith}
use lib.ListN.{length, take, set, replicate, length-set, length-replicate, get_or-replicate}
use lib.Seq.{take-suc-set, take_all}
use Rattle.rules.specs.Count.{list_of, from}
use Rattle.rules.proofs.Lists.{list_more, list_is}

-- the first i of n places hold f 0, f 1, ..
pub record Filled {A : Type 0} (f : ℕ → A) (n i : ℕ) (l : List A) : Type 0 where
  pub within : i ≤ n
  pub long : length l ≡ n
  pub done : take i l ≡ list_of f i

module _ {A : Type 0} {f : ℕ → A} {n : ℕ} where
  pub none_filled : (l : List A) → length l ≡ n → Filled f n 0 l
  unfolding from
  none_filled l e = record { within = omega arith; long = e; done = refl }

  pub one_more : {i : ℕ} {l : List A} (v : A) → Filled f n i l → i < n → v ≡ f i → Filled f n (i + 1) (set l i v)
  one_more {i} {l} v h k e = record {
    within = omega arith;
    long = length-set l i v ∙ h.long;
    done = rw add-one (take-suc-set l i v (omega arith)) ∙ ap₂ (λ a b. a ++ (b ∷ [])) h.done e ∙ sym (list_more f i);
  }

  pub all_filled : {i : ℕ} {l : List A} → Filled f n i l → n ≤ i → l ≡ list_of f n
  all_filled {i} {l} h k =
      let e : i ≡ n = omega arith in
      sym (take_all i l (omega arith)) ∙ h.done ∙ rw e

pub list_same : {A : Type 0} (x : A) (n : ℕ) → list_of (λ i. x) n ≡ replicate n x
list_same x n = sym (list_is (λ i. x) x n (replicate n x) (length-replicate n x) (λ i l. get_or-replicate n i x x l))
