-- Laws of one bit set in a number, and of a run of elements set in a list. Assumes nothing.
use mathlib.Core.Path.{◌≡◌, sym, ap, ap₂, ◌∙◌, subst}
use mathlib.Core.Logic.{◌⊎◌, inl, inr}
use mathlib.Core.List.{List, ◌++◌}
use Prim.Native.Nat.{ℕ, zero, suc, ◌+◌, ◌-◌, ◌*◌, ◌/◌, ◌%◌, ◌^◌, ◌≤◌, ◌<◌}
use native.Mathlib.Nat.{mod-lt, mod-eq_of_lt}
use native.Mathlib.Numerals.{one-add}
use native.Mathlib.Decide.{dec_lt}
use native.Mathlib.Omega.{arith}
use lib.ListN.{length, get_or, take, drop, length-append, get_or-append}
use lib.Seq.{sets, sets-eq, length-take-le, get_or-append-add, get_or-take, get_or-drop}
use lib.Arith.{digits_lt, digits_div, digits_mod}
use lib.Pow.{pow_pos, pow-add, shr_lt, shr-shr, high, low, field, mod-mod-pow, mod-pow-add}
use Rattle.rules.specs.Bits.{set_in}

-- ---- one bit of a number

-- the bit is as set
pub set_in_same : (x p b : ℕ) → b < 2 → set_in x p b / 2 ^ p % 2 ≡ b
unfolding set_in
set_in_same x p b h = rw (high (x / 2 ^ p / 2 * 2 + b) p (mod-lt x (pow_pos p))) (digits_mod (x / 2 ^ p / 2) h)

low_agree : (n m p q : ℕ) → q < p → n % 2 ^ p ≡ m % 2 ^ p → n / 2 ^ q % 2 ≡ m / 2 ^ q % 2
low_agree n m p q h e = sym (field n 1 q) ∙ ap (λ x. x / 2 ^ q) lows ∙ field m 1 q
  where
    d : p ≡ (p - (1 + q)) + (1 + q)
    d = omega arith

    cut : (z : ℕ) → z % 2 ^ p % 2 ^ (1 + q) ≡ z % 2 ^ (1 + q)
    cut z = ap (λ x. z % 2 ^ x % 2 ^ (1 + q)) d ∙ mod-mod-pow z (p - (1 + q)) (1 + q)

    lows : n % 2 ^ (1 + q) ≡ m % 2 ^ (1 + q)
    lows = sym (cut n) ∙ ap (λ x. x % 2 ^ (1 + q)) e ∙ cut m

high_agree : (n m p q : ℕ) → p < q → n / 2 ^ p / 2 ≡ m / 2 ^ p / 2 → n / 2 ^ q ≡ m / 2 ^ q
high_agree n m p q h e = sym (cut n) ∙ ap (λ x. x / 2 ^ (q - (p + 1))) (sym (shr-shr n p 1) ∙ e ∙ shr-shr m p 1) ∙ cut m
  where
    d : (p + 1) + (q - (p + 1)) ≡ q
    d = omega arith

    cut : (z : ℕ) → z / 2 ^ (p + 1) / 2 ^ (q - (p + 1)) ≡ z / 2 ^ q
    cut z = shr-shr z (p + 1) (q - (p + 1)) ∙ ap (λ x. z / 2 ^ x) d

-- two numbers that differ, one way or the other
pub apart : (p q : ℕ) → (q ≡ p → ⊥) → (p < q) ⊎ (q < p)
apart p q n = elim (dec_lt p q) [ yes l ↦ inl l | no l ↦ inr (omega (arith, l, n)) ]

other_by : (x p q b : ℕ) → b < 2 → (p < q) ⊎ (q < p) → set_in x p b / 2 ^ q % 2 ≡ x / 2 ^ q % 2
unfolding set_in
other_by x p q b hb (inl h) =
    ap (λ y. y % 2)
    (high_agree (set_in x p b) x p q h
    (ap (λ y. y / 2) (high (x / 2 ^ p / 2 * 2 + b) p (mod-lt x (pow_pos p))) ∙ digits_div (x / 2 ^ p / 2) hb))
other_by x p q b hb (inr h) = low_agree (set_in x p b) x p q h (low (x / 2 ^ p / 2 * 2 + b) p (mod-lt x (pow_pos p)))

-- the other bits are as before
pub set_in_other : (x p q b : ℕ) → b < 2 → (q ≡ p → ⊥) → set_in x p b / 2 ^ q % 2 ≡ x / 2 ^ q % 2
set_in_other x p q b hb n = other_by x p q b hb (apart p q n)

-- a number of w bits stays one
pub set_in_lt : (w x p b : ℕ) → x < 2 ^ w → p < w → b < 2 → set_in x p b < 2 ^ w
unfolding set_in
set_in_lt w x p b hx hp hb =
    subst (λ m. set_in x p b < m) whole (digits_lt (digits_lt top hb) (mod-lt x (pow_pos p)))
  where
    d : (w - 1 - p) + (p + 1) ≡ w
    d = omega arith

    e : (w - 1 - p) + 1 + p ≡ w
    e = omega arith

    top : x / 2 ^ p / 2 < 2 ^ (w - 1 - p)
    top = rw (shr-shr x p 1) (shr_lt (w - 1 - p) (p + 1) (rw d hx))

    whole : 2 ^ (w - 1 - p) * 2 * 2 ^ p ≡ 2 ^ w
    whole = ap (λ m. m * 2 ^ p) (sym (pow-add 2 (w - 1 - p) 1)) ∙ sym (pow-add 2 ((w - 1 - p) + 1) p) ∙ ap (λ m. 2 ^ m) e

-- numbers of w bits whose bits agree are equal
pub number_ext : (w x y : ℕ) → x < 2 ^ w → y < 2 ^ w → ((p : ℕ) → p < w → x / 2 ^ p % 2 ≡ y / 2 ^ p % 2) → x ≡ y
number_ext w x y hx hy h = sym (mod-eq_of_lt hx) ∙ low_bits w (omega arith) ∙ mod-eq_of_lt hy
  where
    low_bits : (k : ℕ) → k ≤ w → x % 2 ^ k ≡ y % 2 ^ k
    low_bits zero l = omega arith
    low_bits (suc k) l =
        ap (λ m. x % 2 ^ m) (sym (one-add k)) ∙ mod-pow-add x 1 k ∙ ap₂ (λ u v. u * 2 ^ k + v) (h k l) (low_bits k (omega arith))
        ∙ sym (mod-pow-add y 1 k) ∙ ap (λ m. y % 2 ^ m) (one-add k)

-- ---- a run of elements of a list

module _ {A : Type 0} (d : A) (l vs : List A) (i : ℕ) (h : i + length vs ≤ length l) where
  start : length (take i l) ≡ i
  start = length-take-le i l (omega arith)

  ends : length (take i l ++ vs) ≡ i + length vs
  ends = rw length-append (omega (arith, start))

  -- the run is as set
  pub sets_in : (j : ℕ) → j < length vs → get_or (sets l i vs) (i + j) d ≡ get_or vs j d
  sets_in j g =
      ap (λ s. get_or s (i + j) d) (sets-eq vs l i h)
      ∙ get_or-append (take i l ++ vs) (drop (i + length vs) l) d (i + j) (omega (arith, ends))
      ∙ ap (λ n. get_or (take i l ++ vs) (n + j) d) (sym start)
      ∙ get_or-append-add (take i l) vs j d

  -- before it nothing changes
  pub sets_under : (k : ℕ) → k < i → get_or (sets l i vs) k d ≡ get_or l k d
  sets_under k g =
      ap (λ s. get_or s k d) (sets-eq vs l i h)
      ∙ get_or-append (take i l ++ vs) (drop (i + length vs) l) d k (omega (arith, ends))
      ∙ get_or-append (take i l) vs d k (omega (arith, start))
      ∙ get_or-take i l k d g

  -- nor after it
  pub sets_over : (k : ℕ) → i + length vs ≤ k → get_or (sets l i vs) k d ≡ get_or l k d
  sets_over k g =
      let m : k ≡ length (take i l ++ vs) + (k - (i + length vs)) = omega (arith, ends) in
      let n : i + length vs + (k - (i + length vs)) ≡ k = omega arith in
      ap (λ s. get_or s k d) (sets-eq vs l i h)
      ∙ ap (λ n. get_or (take i l ++ vs ++ drop (i + length vs) l) n d) m
      ∙ get_or-append-add (take i l ++ vs) (drop (i + length vs) l) (k - (i + length vs)) d
      ∙ get_or-drop (i + length vs) l (k - (i + length vs)) d
      ∙ ap (λ n. get_or l n d) n
