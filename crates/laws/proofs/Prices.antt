-- Step 5: the next prices. Assumes nothing.
use mathlib.Core.Path.{◌≡◌, refl}
use mathlib.Core.Bool.{Bool, true, false, ◌&&◌, cond}
use mathlib.Core.List.{List}
use Prim.Native.Nat.{ℕ, zero, suc, ◌*◌, ◌-◌, ◌/◌, ◌≤◌, ◌<◌}
use native.Mathlib.Omega.{arith}
use native.Mathlib.Nat.{mul-le-mul_left}
use borrow.Author.Tests.{eqb-false}
use lib.Dec.{eqb, leb}
use Rattle.std.specs.Prelude.{Option, None, Some, is_some}
use Rattle.rules.specs.declared.Decrements.{Decrements}
use Rattle.rules.specs.declared.Setup.{Setup}
use Rattle.rules.specs.declared.Auction.{Auction}
use Rattle.rules.specs.Count.{never}
use Rattle.rules.specs.Settings.{setup, target_of, percent_of, decrement_of}
use Rattle.rules.specs.Held.{held, above, above_zero, standing_of}
use Rattle.rules.specs.Bid.{one_if, price_at, before_at}
use Rattle.rules.specs.Price.{Override, decrement_up_to, decrement_for, fallen, is_given, override_fits, decrement_by}
use Rattle.rules.specs.Round.{override_for, overrides_fit, price_next, mark_next, before_next, at_bottom, stops}
use Rattle.rules.proofs.Sums.{best_none}
use Rattle.rules.proofs.Lists.{clash, all_take}
use Rattle.rules.proofs.Signed.{above_true, above_false, above_zero_lem, lt_above}
use Rattle.rules.proofs.Tests.{told}
use Rattle.rules.specs.Stands.{Limits}

-- no decrement of the table is above 500 basis points
decrement_small : (t : Setup) → Limits t → (pct n : ℕ) → n ≤ t.decrements.rows → decrement_up_to t.decrements pct n ≤ 500
decrement_small t L pct zero h = omega arith
decrement_small t L pct (suc n) h = by (leb (percent_of d n) pct) (L.decrement n h) (decrement_small t L pct n (omega arith))
  where
    d : Decrements
    d = t.decrements

    by : (s : Bool) → (50 ≤ decrement_of d n) × (decrement_of d n ≤ 500) → decrement_up_to d pct n ≤ 500
        → cond s (decrement_of d n) (decrement_up_to d pct n) ≤ 500
    by true x y = x.1
    by false x y = y

-- "an optional decrement of 1 to 1,000 basis points": none used is above 1,000, the table's or the manager's
override_small : (o : Override) (d : ℕ) → override_fits o ≡ true → d ≤ 500 → decrement_by o d ≤ 1000
override_small None d e h = omega arith
override_small (Some x) d e h = search told

-- a price of at least 2 falls, and stays at least 1
pub falls : (p cut : ℕ) → 2 ≤ p → cut ≤ 1000 → (1 ≤ fallen p cut) × (fallen p cut < p)
falls p cut h c = let m = mul-le-mul_left p c in (omega arith, omega arith)

pub cond_false : (s u : Bool) → cond s true u ≡ false → (s ≡ false) × (u ≡ false)
cond_false true u e = clash refl e
cond_false false u e = (refl, e)

nobody : (q : Option ℕ) → is_some q ≡ false → q ≡ None
nobody (Some i) e = clash refl e
nobody None e = refl

and_false : (s u : Bool) → s ≡ true → (s && u) ≡ false → u ≡ false
and_false true u e f = f
and_false false u e f = clash e refl

-- the price, the price before and the mark on product p, from those of a, where x tranches are held at the end and o is the override given
pub record Priced (a : Auction) (o : Override) (p x price before mark : ℕ) : Type 0 where
  pub fell : target_of (setup a) p < x → (1 ≤ price) × (price < price_at a p) × (before ≡ price_at a p)
  pub stayed : x ≤ target_of (setup a) p → (price ≡ price_at a p) × (before ≡ before_at a p)
  pub by : target_of (setup a) p < x
      → (price ≡ fallen (price_at a p) (decrement_by o (decrement_for a.decrements (x - target_of (setup a) p) (target_of (setup a) p))))
      × (mark ≡ one_if (is_given o))
  pub unmarked : x ≤ target_of (setup a) p → mark ≡ 0

-- of any book at prices of at least 1, with overrides that fit
module _ (a : Auction) (L : Limits (setup a)) (os : List Override) where
  abbrev m : ℕ
  m = a.terms.products

  abbrev n : ℕ
  n = a.terms.bidders

  abbrev goal : ℕ → ℕ
  goal = target_of (setup a)

  -- a product above target that did not stop the auction is at 2 at least
  two : (p : ℕ) → p < m → 1 ≤ price_at a p → stops a ≡ false → goal p < held a.records n p → 2 ≤ price_at a p
  two p hp z e h =
      let q = nobody _ (cond_false (at_bottom a) _ e).0 in
      let x = best_none (λ p. above (standing_of a p) && eqb (price_at a p) 1) never m q p hp in
      let y = eqb-false (price_at a p) 1 (and_false _ _ (lt_above (held a.records n p) (goal p) h) x) in
      omega (arith, y, z)

  abbrev cut : ℕ → ℕ
  cut p = decrement_by (override_for os p) (decrement_for a.decrements (above_zero (standing_of a p)) (goal p))

  -- the table's decrement or the manager's
  cut_small : overrides_fit os ≡ true → (p : ℕ) → p < m → cut p ≤ 1000
  cut_small O p hp =
      override_small (override_for os p) _ (all_take (λ p. override_fits (override_for os p)) 8 O p (omega (arith, L.products)))
      (decrement_small (setup a) L (100 * above_zero (standing_of a p) / goal p) a.decrements.rows (omega arith))

  -- the next prices of the products in use
  pub next : overrides_fit os ≡ true → (p : ℕ) → p < a.terms.products → 1 ≤ price_at a p → stops a ≡ false
      → Priced a (override_for os p) p (held a.records a.terms.bidders p) (price_next os a p) (before_next a p) (mark_next os a p)
  next O p hp z e = by (above (standing_of a p)) refl
    where
      by : (s : Bool) → above (standing_of a p) ≡ s
          → Priced a (override_for os p) p (held a.records n p) (cond s (fallen (price_at a p) (cut p)) (price_at a p))
          (cond s (price_at a p) (before_at a p)) (one_if (s && is_given (override_for os p)))
      by true f =
          let h = above_true (held a.records n p) (goal p) f in
          let u = falls (price_at a p) (cut p) (two p hp z e h) (cut_small O p hp) in record {
            fell = λ _. (u.0, u.1, refl);
            stayed = λ l. absurd (let z : ⊥ = omega arith in z);
            by = λ _. (rw (above_zero_lem (held a.records n p) (goal p)) refl, refl);
            unmarked = λ l. absurd (let z : ⊥ = omega arith in z);
          }
      by false f =
          let h = above_false (held a.records n p) (goal p) f in record {
            fell = λ l. absurd (let z : ⊥ = omega arith in z);
            stayed = λ _. (refl, refl);
            by = λ l. absurd (let z : ⊥ = omega arith in z);
            unmarked = λ _. refl;
          }

  -- past the products in use the next prices are 0
  pub next_none : (p : ℕ) → price_at a p ≡ 0 → before_at a p ≡ 0 → (price_next os a p ≡ 0) × (before_next a p ≡ 0)
  next_none p x y = by (above (standing_of a p))
    where
      by : (s : Bool) → (cond s (fallen (price_at a p) (cut p)) (price_at a p) ≡ 0) × (cond s (price_at a p) (before_at a p) ≡ 0)
      by true = (omega arith, x)
      by false = (x, y)

-- ---- marks

module _ (a : Auction) (os : List Override) (p : ℕ) where
  -- "an override on a product that isn't above target .. does nothing and isn't reported"
  pub mark_low : held a.records a.terms.bidders p ≤ target_of (setup a) p → mark_next os a p ≡ 0
  mark_low h = by (above (standing_of a p)) refl
    where
      by : (s : Bool) → above (standing_of a p) ≡ s → one_if (s && is_given (override_for os p)) ≡ 0
      by true f = absurd (let z : ⊥ = omega (arith, above_true (held a.records a.terms.bidders p) (target_of (setup a) p) f) in z)
      by false f = refl

  -- none given, none marked
  pub mark_none : override_for os p ≡ None → mark_next os a p ≡ 0
  mark_none e = rw e (by (above (standing_of a p)))
    where
      by : (s : Bool) → one_if (s && false) ≡ 0
      by true = refl
      by false = refl
