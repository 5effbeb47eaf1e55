-- The first that passes a test, a place stored anew, an array filled. Assumes nothing.
use mathlib.Core.Path.{◌≡◌, refl, sym, ◌∙◌, subst}
use mathlib.Core.Bool.{Bool, true, false}
use mathlib.Core.List.{List}
use Prim.Native.Nat.{ℕ, zero, suc, ◌+◌, ◌*◌, ◌≤◌, ◌<◌}
use native.Mathlib.Omega.{arith}
use borrow.Author.Tests.{eqb-true, eqb-false, ne_eqb}
use lib.ListN.{get_or, set, length, length-set}
use lib.Seq.{get_or-set_same, get_or-set_other}
use lib.Dec.{eqb}
use Rattle.std.specs.Prelude.{Option, None, Some}
use Rattle.rules.specs.declared.Lots.{Lots}
use Rattle.rules.specs.declared.Place.{Place}
use Rattle.rules.specs.Count.{first_up_to, never, sum_up_to}
use Rattle.rules.specs.Lots.{lot_at}
use Rattle.rules.specs.Accept.{place_at, column, held_of}
use Rattle.rules.proofs.Sums.{best_found, best_ext, first_stays}
use Rattle.rules.proofs.LotLaws.{Most}
use Rattle.table.specs.Room.{Fits, Room}

-- ---- the first that passes a test

-- the same test, number by number, finds the same
pub first_ext : (f g : ℕ → Bool) (n : ℕ) → ((i : ℕ) → i < n → f i ≡ g i) → first_up_to f n ≡ first_up_to g n
first_ext f g n h = best_ext f g never never n h (λ i j _ _. refl)

-- none passes before the first
module _ (has : ℕ → Bool) (m i : ℕ) (e : first_up_to has m ≡ Some i) where
  before_by : (q : Option ℕ) → first_up_to has i ≡ q → q ≡ None
  before_by None f = refl
  before_by (Some j) f =
      let l = (best_found has never m i e).0 in
      let s = sym e ∙ first_stays has i j m f (omega arith) in
      let z : i ≡ j = cc in
      let w = (best_found has never i j f).0 in
      absurd (let x : ⊥ = omega arith in x)

  pub first_before : first_up_to has i ≡ None
  first_before = before_by (first_up_to has i) refl

-- ---- a place stored anew

module _ (ps : List Place) (R : Room ps) where
  fits_by : (k : ℕ) (x : Place) → k < 256 → Fits x → (j : ℕ) (t : Bool) → eqb j k ≡ t → Fits (place_at (set ps k x) j)
  fits_by k x l f j true e =
      let i : k < length ps = omega (arith, R.long) in
      rw (eqb-true j k e, get_or-set_same) f
  fits_by k x l f j false e =
      let d = eqb-false j k e in
      rw get_or-set_other (R.each j)

  pub room_set : (k : ℕ) (x : Place) → k < 256 → Fits x → Room (set ps k x)
  room_set k x l f = record { long = length-set ps k x ∙ R.long; each = λ j. fits_by k x l f j (eqb j k) refl }

  held_small : (n q : ℕ) → sum_up_to (λ i. held_of (place_at ps (i * 8 + q))) n ≤ 120000 * n
  held_small zero q = omega arith
  held_small (suc n) q = let r = held_small n q in let f = R.each (n * 8 + q) in omega (arith, f.outs, f.switches)

  pub column_small : (n q : ℕ) → n ≤ 32 → column held_of ps q n ≤ 3840000
  column_small n q l = let r = held_small n q in omega arith

-- ---- the exit price at a place of lots is within the bits of a price
pub exit_at : (q : ℕ) (l : Lots) → Most q l → (i : ℕ) → (lot_at l i).exit ≤ q
exit_at q l m zero = m.one
exit_at q l m (suc zero) = m.two
exit_at q l m (suc (suc zero)) = m.three
exit_at q l m (suc (suc (suc i))) =
    let a = ne_eqb (suc (suc (suc i))) 0 (λ e. omega arith) in
    let b = ne_eqb (suc (suc (suc i))) 1 (λ e. omega arith) in
    let c = ne_eqb (suc (suc (suc i))) 2 (λ e. omega arith) in
    rw (a, b, c) m.four

-- ---- one place more of an array is filled
module _ {A : Type 0} (P : ℕ → A → Type 0) (d : A) (all : List A) (k : ℕ) (v : A) (long : k < length all) (h : P k v) where
  filled_by : (j : ℕ) → j < suc k → ((j : ℕ) → j < k → P j (get_or all j d)) → (t : Bool) → eqb j k ≡ t → P j (get_or (set all k v) j d)
  filled_by j l f true e =
      subst (λ j. P j (get_or (set all k v) j d)) (sym (eqb-true j k e)) (subst (P k) (sym (get_or-set_same all k v d long)) h)
  filled_by j l f false e =
      let n = eqb-false j k e in
      subst (P j) (sym (get_or-set_other all k j v d n)) (f j (omega (arith, n)))

  pub filled_next : ((j : ℕ) → j < k → P j (get_or all j d)) → (j : ℕ) → j < k + 1 → P j (get_or (set all k v) j d)
  filled_next f j l = filled_by j (omega arith) f (eqb j k) refl
