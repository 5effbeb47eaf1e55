-- The lowest turn is that of the best of the first kind, or where there is none that of the best of the second. Assumes nothing.
use mathlib.Core.Path.{◌≡◌, refl, sym, ◌∙◌, ap, subst}
use mathlib.Core.Bool.{Bool, true, false, ◌&&◌, cond}
use Prim.Native.Nat.{ℕ, zero, suc, ◌≤◌, ◌<◌}
use native.Mathlib.Omega.{arith}
use borrow.Author.Tests.{lt-ltb, le-ltb}
use lib.Dec.{ltb}
use Rattle.std.specs.Prelude.{Option, None, Some}
use Rattle.rules.specs.Count.{pick_if, better, best_up_to}
use Rattle.rules.proofs.Sums.{best_found}
use Rattle.table.specs.declared.Next.{Next}
use Rattle.table.specs.Next.{next, nobody, sooner, soonest, turn_by}

-- the same turns, number by number, give the same
pub soonest_ext : (f g : ℕ → ℕ) (n : ℕ) → ((i : ℕ) → i < n → f i ≡ g i) → soonest f n ≡ soonest g n
soonest_ext f g zero h = refl
soonest_ext f g (suc n) h =
    ap (λ s. sooner s n (f n)) (soonest_ext f g n (λ i l. h i (omega arith))) ∙ ap (sooner (soonest g n) n) (h n (omega arith))

-- the lowest turn is that of the bidder found
module _ (turn : ℕ → ℕ) where
  abbrev Found : ℕ → Next → Type 0
  Found n s = (s.turn ≡ 4294967297 → ⊥) → (s.at < n) × (s.turn ≡ turn s.at)

  found_next : (n : ℕ) (s : Next) → Found n s → (t : Bool) → Found (suc n) (cond t (next n (turn n)) s)
  found_next n s f true d = (omega arith, refl)
  found_next n s f false d = (omega (arith, (f d).0), (f d).1)

  found : (n : ℕ) → Found n (soonest turn n)
  found zero = λ d. absurd (d refl)
  found (suc n) = found_next n (soonest turn n) (found n) (ltb (turn n) (soonest turn n).turn)

  pub soonest_at : (n : ℕ) (s : Next) → s ≡ soonest turn n → (s.turn ≡ 4294967297 → ⊥) → (s.at < n) × (s.turn ≡ turn s.at)
  soonest_at n s e = subst (Found n) (sym e) (found n)

-- two numbers of the two kinds, with a border between them
pub record Apart (border x y : ℕ) : Type 0 where
  pub below : x < border
  pub above : border ≤ y
  pub some : y ≤ 4294967296

module _ (f g : ℕ → Bool) (a b : ℕ → ℕ) (border : ℕ) where
  abbrev pub lowest : (ℕ → Bool) → (ℕ → ℕ) → ℕ → Option ℕ
  lowest has key n = best_up_to has (λ i j. ltb (key i) (key j)) n

  abbrev next_by : Option ℕ → Option ℕ → Next
  next_by (Some j) r = next j (a j)
  next_by None (Some j) = next j (b j)
  next_by None None = nobody

  taken_first : (j n : ℕ) (r : Option ℕ) (t : Bool) → cond t (next n (a n)) (next j (a j)) ≡ next_by (pick_if t n (Some j)) r
  taken_first j n r true = refl
  taken_first j n r false = refl

  taken_second : (j n : ℕ) (t : Bool) → cond t (next n (b n)) (next j (b j)) ≡ next_by None (pick_if t n (Some j))
  taken_second j n true = refl
  taken_second j n false = refl

  -- the candidate n against one of the first kind, against one of the second, and where nobody was found
  past_first : (j n : ℕ) (r : Option ℕ) (s t : Bool) → Apart border (a j) (b n)
      → sooner (next j (a j)) n (turn_by s (a n) t (b n)) ≡ next_by (pick_if (s && ltb (a n) (a j)) n (Some j)) r
  past_first j n r true t l = taken_first j n r (ltb (a n) (a j))
  past_first j n r false true l = ap (λ t. cond t (next n (b n)) (next j (a j))) (le-ltb (b n) (a j) (omega (arith, l.below, l.above)))
  past_first j n r false false l =
      ap (λ t. cond t (next n 4294967297) (next j (a j))) (le-ltb 4294967297 (a j) (omega (arith, l.below, l.above, l.some)))

  past_second : (j n : ℕ) (s t : Bool) → Apart border (a n) (b j)
      → sooner (next j (b j)) n (turn_by s (a n) t (b n)) ≡ next_by (pick_if s n None) (pick_if (t && ltb (b n) (b j)) n (Some j))
  past_second j n true t l = ap (λ t. cond t (next n (a n)) (next j (b j))) (lt-ltb (a n) (b j) (omega (arith, l.below, l.above)))
  past_second j n false true l = taken_second j n (ltb (b n) (b j))
  past_second j n false false l = ap (λ t. cond t (next n 4294967297) (next j (b j))) (le-ltb 4294967297 (b j) (omega (arith, l.some)))

  past_nobody : (n : ℕ) (s t : Bool) → Apart border (a n) (b n)
      → sooner nobody n (turn_by s (a n) t (b n)) ≡ next_by (pick_if s n None) (pick_if t n None)
  past_nobody n true t l =
      ap (λ t. cond t (next n (a n)) nobody) (lt-ltb (a n) 4294967297 (omega (arith, l.below, l.above, l.some)))
  past_nobody n false true l = ap (λ t. cond t (next n (b n)) nobody) (lt-ltb (b n) 4294967297 (omega (arith, l.some)))
  past_nobody n false false l = refl

  past : (q r : Option ℕ) (n : ℕ) → ((j : ℕ) → q ≡ Some j → Apart border (a j) (b n)) → ((j : ℕ) → r ≡ Some j → Apart border (a n) (b j))
      → Apart border (a n) (b n) → sooner (next_by q r) n (turn_by (f n) (a n) (g n) (b n))
      ≡ next_by (better f (λ i j. ltb (a i) (a j)) q n) (better g (λ i j. ltb (b i) (b j)) r n)
  past (Some j) r n h k l = past_first j n (better g (λ i j. ltb (b i) (b j)) r n) (f n) (g n) (h j refl)
  past None (Some j) n h k l = past_second j n (f n) (g n) (k j refl)
  past None None n h k l = past_nobody n (f n) (g n) l

  apart_by : (i j : ℕ) → Apart border (a i) (b i) → Apart border (a j) (b j) → Apart border (a i) (b j)
  apart_by i j x y = record { below = x.below; above = y.above; some = y.some }

  next_is : (n : ℕ) → ((i : ℕ) → i < n → Apart border (a i) (b i))
      → soonest (λ i. turn_by (f i) (a i) (g i) (b i)) n ≡ next_by (lowest f a n) (lowest g b n)
  next_is zero h = refl
  next_is (suc n) h =
      let l = h n (omega arith) in
      ap (λ s. sooner s n (turn_by (f n) (a n) (g n) (b n))) (next_is n (λ i l. h i (omega arith)))
      ∙ past (lowest f a n) (lowest g b n) n
      (λ j e. apart_by j n (h j (omega (arith, (best_found f (λ i j. ltb (a i) (a j)) n j e).0))) l)
      (λ j e. apart_by n j l (h j (omega (arith, (best_found g (λ i j. ltb (b i) (b j)) n j e).0)))) l

  nobody_by : (q r : Option ℕ) → ((j : ℕ) → q ≡ Some j → Apart border (a j) (b j)) → ((j : ℕ) → r ≡ Some j → Apart border (a j) (b j))
      → (next_by q r).turn ≡ 4294967297 → (q ≡ None) × (r ≡ None)
  nobody_by (Some j) r h k e = let l = h j refl in absurd (let f : ⊥ = omega (arith, l.below, l.above, l.some) in f)
  nobody_by None (Some j) h k e = let l = k j refl in absurd (let f : ⊥ = omega (arith, l.some) in f)
  nobody_by None None h k e = (refl, refl)

  first_by : (q r : Option ℕ) → ((j : ℕ) → r ≡ Some j → Apart border (a j) (b j)) → border ≤ 4294967296 → (next_by q r).turn < border
      → q ≡ Some (next_by q r).at
  first_by (Some j) r k m l = refl
  first_by None (Some j) k m l = let x = k j refl in absurd (let f : ⊥ = omega (arith, x.above) in f)
  first_by None None k m l = absurd (let f : ⊥ = omega arith in f)

  second_by : (q r : Option ℕ) → ((j : ℕ) → q ≡ Some j → Apart border (a j) (b j)) → border ≤ (next_by q r).turn
      → ((next_by q r).turn ≡ 4294967297 → ⊥) → (q ≡ None) × (r ≡ Some (next_by q r).at)
  second_by (Some j) r h l d = let x = h j refl in absurd (let f : ⊥ = omega (arith, x.below) in f)
  second_by None (Some j) h l d = (refl, refl)
  second_by None None h l d = absurd (d refl)

  module _ (n : ℕ) (apart : (i : ℕ) → i < n → Apart border (a i) (b i)) (s : Next)
      (e : s ≡ soonest (λ i. turn_by (f i) (a i) (g i) (b i)) n) where
    same : s ≡ next_by (lowest f a n) (lowest g b n)
    same = e ∙ next_is n apart

    apart_first : (j : ℕ) → lowest f a n ≡ Some j → Apart border (a j) (b j)
    apart_first j e = apart j (best_found f (λ i j. ltb (a i) (a j)) n j e).0

    apart_second : (j : ℕ) → lowest g b n ≡ Some j → Apart border (a j) (b j)
    apart_second j e = apart j (best_found g (λ i j. ltb (b i) (b j)) n j e).0

    pub next_nobody : s.turn ≡ 4294967297 → (lowest f a n ≡ None) × (lowest g b n ≡ None)
    next_nobody z = nobody_by (lowest f a n) (lowest g b n) apart_first apart_second (sym (ap (λ s. s.turn) same) ∙ z)

    pub next_first : border ≤ 4294967296 → s.turn < border → lowest f a n ≡ Some s.at
    next_first m l =
        first_by (lowest f a n) (lowest g b n) apart_second m (let z = ap (λ s. s.turn) same in omega arith)
        ∙ ap (λ s. Some s.at) (sym same)

    pub next_second : border ≤ s.turn → (s.turn ≡ 4294967297 → ⊥) → (lowest f a n ≡ None) × (lowest g b n ≡ Some s.at)
    next_second l d =
        let z = ap (λ s. s.turn) same in
        let w = second_by (lowest f a n) (lowest g b n) apart_first (omega arith) (λ e. d (z ∙ e)) in
        (w.0, w.1 ∙ ap (λ s. Some s.at) (sym same))
