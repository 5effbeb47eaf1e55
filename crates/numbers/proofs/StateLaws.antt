-- What the number of a call lent a state tells of the state. Assumes nothing.
use mathlib.Core.Path.{◌≡◌, refl, sym, ◌∙◌}
use mathlib.Core.Bool.{Bool, true, false, cond}
use mathlib.Core.List.{List}
use Prim.Native.Nat.{ℕ, zero, suc, ◌<◌}
use native.Mathlib.Omega.{arith}
use borrow.Author.Tests.{eqb-true}
use lib.ListN.{length}
use lib.Dec.{eqb}
use Rattle.rules.specs.declared.Auction.{Auction}
use Rattle.rules.specs.Answers.{first_number}
use Rattle.rules.specs.Layout.{state_length, loaded, all_zero}
use Rattle.rules.specs.Legal.{stands}
use Rattle.rules.specs.Calls.{of_state}
use Rattle.rules.specs.Stands.{Stands}
use Rattle.rules.proofs.Legal.{stands_take}
use Rattle.book.specs.Lent.{Lent}
use Rattle.numbers.specs.State.{state_number}

-- bytes that hold a standing auction
pub record Stood (s : List ℕ) : Type 0 where
  pub long : length s ≡ state_length
  pub stood : Stands (loaded s)
  pub says : (w : ℕ) (f : Auction → ℕ) → of_state s w f ≡ f (loaded s)

-- its counts are within their limits
pub lent : (s : List ℕ) → Stood s → Lent s
lent s S =
    let L = S.stood.limits in
    record { long = S.long; counts = record { products = L.products; bidders = L.bidders; rows = L.rows } }

-- the number by the state's three tests: its length, all zero, standing
abbrev number : Bool → Bool → Bool → ℕ → ℕ → ℕ
number t u v w x = cond t (cond u w (cond v x 2)) 1

-- where nothing is refused the state passed each of its tests
passed : (t u v : Bool) (w x : ℕ) → 0 < w → number t u v w x ≡ 0 → (t ≡ true) × ((u ≡ false) × ((v ≡ true) × (x ≡ 0)))
passed true true v w x h e = absurd (let z : ⊥ = omega arith in z)
passed true false true w x h e = (refl, (refl, (refl, e)))
passed true false false w x h e = absurd (let z : ⊥ = omega arith in z)
passed false u v w x h e = absurd (let z : ⊥ = omega arith in z)

pub stood_by : (s : List ℕ) (w : ℕ) (f : Auction → ℕ) → 0 < w → of_state s w f ≡ 0 → Stood s × (f (loaded s) ≡ 0)
stood_by s w f h z =
    let p = passed (eqb (length s) state_length) (all_zero s) (stands (loaded s)) w (f (loaded s)) h z in (
      record {
        long = eqb-true (length s) state_length p.0;
        stood = stands_take (loaded s) p.1.1.0;
        says = λ w f. rw (p.0, p.1.0, p.1.1.0);
      },
      p.1.1.1,
    )

-- 0: the state stands
pub standing : (s : List ℕ) → state_number s ≡ 0 → Stood s
standing s z = (stood_by s 3 (λ a. 0) (omega arith) z).0

refused_by : (t u v : Bool) (w x : ℕ) → (number t u v 3 0 ≡ 0 → ⊥) → (number t u v 3 0 ≡ 3 → w ≡ 3) → number t u v 3 0 ≡ number t u v w x
refused_by true true v w x h g = sym (g refl)
refused_by true false true w x h g = absurd (h refl)
refused_by true false false w x h g = refl
refused_by false u v w x h g = refl

-- another number is the call's own; 3, of an issued state, only where the call says it too
pub not_standing : (s : List ℕ) (w : ℕ) (f : Auction → ℕ) → (state_number s ≡ 0 → ⊥) → (state_number s ≡ 3 → w ≡ 3) → state_number s ≡ of_state s w f
not_standing s w f h g = refused_by (eqb (length s) state_length) (all_zero s) (stands (loaded s)) w (f (loaded s)) h g

issued_by : (t u v : Bool) (w x : ℕ) → number t u v 3 0 ≡ 3 → w ≡ number t u v w x
issued_by true true v w x e = refl
issued_by true false true w x e = absurd (let z : ⊥ = omega arith in z)
issued_by true false false w x e = absurd (let z : ⊥ = omega arith in z)
issued_by false u v w x e = absurd (let z : ⊥ = omega arith in z)

-- 3: issued, and the call's number is the one given for that
pub issued : (s : List ℕ) (w : ℕ) (f : Auction → ℕ) → state_number s ≡ 3 → w ≡ of_state s w f
issued s w f z = issued_by (eqb (length s) state_length) (all_zero s) (stands (loaded s)) w (f (loaded s)) z

-- what is said of the auction is the call's number
pub said : (s : List ℕ) → Stood s → (w : ℕ) (f : Auction → ℕ) (n : ℕ) → n ≡ f (loaded s) → n ≡ of_state s w f
said s S w f n h = h ∙ sym (S.says w f)

-- ---- two numbers, of which the first that applies

pub first_by : (n next : ℕ) → (n ≡ 0 → ⊥) → n ≡ first_number n next
first_by zero next h = absurd (h refl)
first_by (suc n) next h = refl
