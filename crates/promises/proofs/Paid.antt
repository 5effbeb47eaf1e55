-- The price paid: "the highest price of any held tranche, or the going price if none is held". Assumes nothing.
use mathlib.Core.Path.{◌≡◌, refl, sym, ◌∙◌, ap, subst}
use mathlib.Core.Bool.{Bool, true, false, cond}
use mathlib.Core.Logic.{◌⊎◌, inl, inr}
use Prim.Native.Nat.{ℕ, zero, suc, ◌+◌, ◌≤◌, ◌<◌, max}
use native.Mathlib.Omega.{arith}
use borrow.Author.Tests.{eqb-true, eqb-false, ltb-true, ltb-false, lt-ltb, leb-true, leb-false}
use lib.Dec.{leb, ltb, eqb}
use Rattle.rules.specs.declared.Lot.{Lot}
use Rattle.rules.specs.declared.Lots.{Lots}
use Rattle.rules.specs.declared.Record.{Record}
use Rattle.rules.specs.declared.Auction.{Auction}
use Rattle.rules.specs.Lots.{count_of, lot_at, ExitFits, ExitsFit}
use Rattle.rules.specs.Held.{going_in, denied_in, held_in, held}
use Rattle.rules.specs.Bid.{record_of, price_at, before_at}
use Rattle.rules.specs.Report.{price_if, exit_if, highest_lot, highest_in, highest_up_to, paid_on}
use Rattle.rules.specs.Stands.{Stands}
use Rattle.rules.proofs.Sums.{sum_ge, sum_pos}
use Rattle.rules.proofs.LotLaws.{at_total}
use Rattle.promises.specs.Awards.{HoldsIn, HoldsAt}

le_trans : (x y z : ℕ) → x ≤ y → y ≤ z → x ≤ z
le_trans x y z l m = omega arith

-- the larger of two, of three and of four is at least each
of_two : (x y : ℕ) → (x ≤ max x y) × (y ≤ max x y)
of_two x y = (omega arith, omega arith)

of_three : (x y z : ℕ) → (x ≤ max x (max y z)) × (y ≤ max x (max y z)) × (z ≤ max x (max y z))
of_three x y z = (omega arith, omega arith, omega arith)

of_four : (w x y z : ℕ)
    → (w ≤ max w (max x (max y z))) × (x ≤ max w (max x (max y z))) × (y ≤ max w (max x (max y z))) × (z ≤ max w (max x (max y z)))
of_four w x y z = (omega arith, omega arith, omega arith, omega arith)

-- no record holds a tranche at more than the highest price
highest_ge : (a : Auction) (p n b : ℕ) → b < n → highest_in (price_at a p) (before_at a p) (record_of a b p) ≤ highest_up_to a p n
highest_ge a p zero b l = absurd (let x : ⊥ = omega arith in x)
highest_ge a p (suc n) b l = by (eqb b n) refl (highest_ge a p n b)
  where
    by : (s : Bool) → eqb b n ≡ s → (b < n → highest_in (price_at a p) (before_at a p) (record_of a b p) ≤ highest_up_to a p n)
        → highest_in (price_at a p) (before_at a p) (record_of a b p) ≤ highest_up_to a p (suc n)
    by true e r =
        subst (λ i. highest_in (price_at a p) (before_at a p) (record_of a i p) ≤ highest_up_to a p (suc n)) (sym (eqb-true b n e)) (of_two _ _).1
    by false e r = let d = eqb-false b n e in le_trans _ _ _ (r (omega arith)) (of_two _ _).0

paid_by : (v h q : ℕ) → 1 ≤ v → v ≤ h → (s : Bool) → eqb h 0 ≡ s → v ≤ cond s q h
paid_by v h q l g true e = let x = eqb-true h 0 e in absurd (let y : ⊥ = omega arith in y)
paid_by v h q l g false e = g

module _ (a : Auction) (S : Stands a) (b p : ℕ) (hb : b < a.terms.bidders) (hp : p < a.terms.products) where
  paid : (v : ℕ) → 1 ≤ v → v ≤ highest_in (price_at a p) (before_at a p) (record_of a b p) → v ≤ paid_on a p
  paid v l g =
      let x = highest_ge a p a.terms.bidders b hb in
      paid_by v (highest_up_to a p a.terms.bidders) (price_at a p) l (le_trans _ _ _ g x) (eqb (highest_up_to a p a.terms.bidders) 0) refl

  -- the price paid is at least p where g is held, q where d is, and the exit price of each lot where r is
  pub paid_going : 0 < going_in (record_of a b p) → price_at a p ≤ paid_on a p
  paid_going h =
      let e = ap (λ s. cond s (price_at a p) 0) (lt-ltb 0 (going_in (record_of a b p)) h) in
      paid (price_at a p) (S.prices p hp).0 (le_trans _ _ _ (omega arith) (of_three (price_if (going_in (record_of a b p)) (price_at a p)) _ _).0)

  pub paid_denied : 0 < denied_in (record_of a b p) → before_at a p ≤ paid_on a p
  paid_denied h =
      let e = ap (λ s. cond s (before_at a p) 0) (lt-ltb 0 (denied_in (record_of a b p)) h) in
      let w = S.prices p hp in
      paid (before_at a p) (omega (arith, w))
      (le_trans _ _ _ (omega arith) (of_three _ (price_if (denied_in (record_of a b p)) (before_at a p)) _).1)

  paid_exit : (x : Lot) → ExitFits (price_at a p) (before_at a p) x → exit_if x ≤ highest_lot (record_of a b p).retained
      → 0 < count_of x → x.exit ≤ paid_on a p
  paid_exit x f g h =
      let e = ap (λ s. cond s x.exit 0) (lt-ltb 0 (count_of x) h) in
      let w = f h in
      paid x.exit (omega (arith, w)) (le_trans _ _ _ (le_trans _ _ _ (omega arith) g) (of_three _ _ (highest_lot (record_of a b p).retained)).2)

  pub paid_retained : (i : ℕ) → i < 4 → 0 < count_of (lot_at (record_of a b p).retained i)
      → (lot_at (record_of a b p).retained i).exit ≤ paid_on a p
  paid_retained zero l = paid_exit _ (S.exits b p hb hp).one (of_four _ _ _ _).0
  paid_retained (suc zero) l = paid_exit _ (S.exits b p hb hp).two (of_four _ _ _ _).1
  paid_retained (suc (suc zero)) l = paid_exit _ (S.exits b p hb hp).three (of_four _ _ _ _).2
  paid_retained (suc (suc (suc zero))) l = paid_exit _ (S.exits b p hb hp).four (of_four _ _ _ _).3
  paid_retained (suc (suc (suc (suc i)))) l = absurd (let x : ⊥ = omega arith in x)

-- ---- it is the price of a tranche that is held

-- a price that counts is that of tranches that there are, and where no price counts there are none
if_some : (n x : ℕ) (t : Bool) → ltb 0 n ≡ t → 0 < cond t x 0 → (0 < n) × (cond t x 0 ≡ x)
if_some n x true e l = (ltb-true _ _ e, refl)
if_some n x false e l = absurd (let z : ⊥ = omega arith in z)

if_none : (n x : ℕ) (t : Bool) → ltb 0 n ≡ t → cond t x 0 ≤ 0 → (0 < n → 1 ≤ x) → n ≤ 0
if_none n x true e l h = let k = h (ltb-true 0 n e) in absurd (let z : ⊥ = omega arith in z)
if_none n x false e l h = ltb-false _ _ e

larger : (x y : ℕ) → (max x y ≡ x) ⊎ (max x y ≡ y)
larger x y = by (leb x y) refl
  where
    by : (t : Bool) → leb x y ≡ t → (max x y ≡ x) ⊎ (max x y ≡ y)
    by true e = let l = leb-true x y e in inr (omega arith)
    by false e = let l = leb-false x y e in inl (omega arith)

module _ (l : Lots) (x : ℕ) (some : 0 < x) where
  abbrev InLot : Type 0
  InLot = (i : ℕ) × (i < 4) × (0 < count_of (lot_at l i)) × (x ≡ (lot_at l i).exit)

  in_lot : (i : ℕ) → i < 4 → x ≡ exit_if (lot_at l i) → InLot
  in_lot i h e =
      let k = if_some (count_of (lot_at l i)) (lot_at l i).exit (ltb 0 (count_of (lot_at l i))) refl (omega arith) in
      (i, h, k.0, e ∙ k.1)

  lots_held : x ≡ highest_lot l → InLot
  lots_held e = first (larger (exit_if l.one) _)
    where
      third : x ≡ max (exit_if l.three) (exit_if l.four)
          → (max (exit_if l.three) (exit_if l.four) ≡ exit_if l.three) ⊎ (max (exit_if l.three) (exit_if l.four) ≡ exit_if l.four) → InLot
      third e (inl f) = in_lot 2 (omega arith) (e ∙ f)
      third e (inr f) = in_lot 3 (omega arith) (e ∙ f)

      second : x ≡ max (exit_if l.two) (max (exit_if l.three) (exit_if l.four))
          → (max (exit_if l.two) (max (exit_if l.three) (exit_if l.four)) ≡ exit_if l.two)
          ⊎ (max (exit_if l.two) (max (exit_if l.three) (exit_if l.four)) ≡ max (exit_if l.three) (exit_if l.four)) → InLot
      second e (inl f) = in_lot 1 (omega arith) (e ∙ f)
      second e (inr f) = third (e ∙ f) (larger (exit_if l.three) _)

      first : (highest_lot l ≡ exit_if l.one) ⊎ (highest_lot l ≡ max (exit_if l.two) (max (exit_if l.three) (exit_if l.four))) → InLot
      first (inl f) = in_lot 0 (omega arith) (e ∙ f)
      first (inr f) = second (e ∙ f) (larger (exit_if l.two) _)

record_held : (p q : ℕ) (r : Record) (x : ℕ) → 0 < x → x ≡ highest_in p q r → HoldsIn p q r x
record_held p q r x some e = going (larger (price_if (going_in r) p) _)
  where
    denied : x ≡ max (price_if (denied_in r) q) (highest_lot r.retained)
        → (max (price_if (denied_in r) q) (highest_lot r.retained) ≡ price_if (denied_in r) q)
        ⊎ (max (price_if (denied_in r) q) (highest_lot r.retained) ≡ highest_lot r.retained) → HoldsIn p q r x
    denied e (inl f) =
        let g = e ∙ f in
        let k = if_some (denied_in r) q (ltb 0 (denied_in r)) refl (omega arith) in
        inr (inl (k.0, g ∙ k.1))
    denied e (inr f) = inr (inr (lots_held r.retained x some (e ∙ f)))

    going : (highest_in p q r ≡ price_if (going_in r) p) ⊎ (highest_in p q r ≡ max (price_if (denied_in r) q) (highest_lot r.retained))
        → HoldsIn p q r x
    going (inl f) =
        let g = e ∙ f in
        let k = if_some (going_in r) p (ltb 0 (going_in r)) refl (omega arith) in
        inl (k.0, g ∙ k.1)
    going (inr f) = denied (e ∙ f) (larger (price_if (denied_in r) q) _)

not_none : (x : ℕ) → (x ≡ 0 → ⊥) → 0 < x
not_none zero d = absurd (d refl)
not_none (suc x) d = omega arith

-- some bidder's record has the highest price
highest_of : (a : Auction) (p n : ℕ) → 0 < highest_up_to a p n
    → (b : ℕ) × (b < n) × (highest_up_to a p n ≡ highest_in (price_at a p) (before_at a p) (record_of a b p))
highest_of a p zero l = absurd (let z : ⊥ = omega arith in z)
highest_of a p (suc n) l = by (larger (highest_up_to a p n) (highest_in (price_at a p) (before_at a p) (record_of a n p))) (highest_of a p n)
  where
    by : (highest_up_to a p (suc n) ≡ highest_up_to a p n)
        ⊎ (highest_up_to a p (suc n) ≡ highest_in (price_at a p) (before_at a p) (record_of a n p))
        → (0 < highest_up_to a p n → (b : ℕ) × (b < n) × (highest_up_to a p n ≡ highest_in (price_at a p) (before_at a p) (record_of a b p)))
        → (b : ℕ) × (b < suc n) × (highest_up_to a p (suc n) ≡ highest_in (price_at a p) (before_at a p) (record_of a b p))
    by (inl e) f = let k = f (subst (λ x. 0 < x) e l) in (k.0, less k.0 k.1, e ∙ k.2)
      where
        less : (b : ℕ) → b < n → b < suc n
        less b h = omega arith
    by (inr e) f = (n, omega arith, e)

-- who holds a tranche at a price holds one
some_held : (p q : ℕ) (r : Record) (x : ℕ) → HoldsIn p q r x → 0 < held_in r
some_held p q r x (inl h) = let k = h.0 in omega arith
some_held p q r x (inr (inl h)) = let k = h.0 in omega arith
some_held p q r x (inr (inr h)) = let k = h.2 in omega (arith, at_total r.retained h.0)

-- and where no price counts nothing is held
none_held : (p q : ℕ) (r : Record) → 1 ≤ p → p ≤ q → ExitsFit p q r.retained → highest_in p q r ≤ 0 → held_in r ≤ 0
none_held p q r l m E h =
    let t = of_three (price_if (going_in r) p) (price_if (denied_in r) q) (highest_lot r.retained) in
    let f = of_four (exit_if r.retained.one) (exit_if r.retained.two) (exit_if r.retained.three) (exit_if r.retained.four) in
    let k = le_trans _ _ _ t.2 h in
    let g = if_none (going_in r) p (ltb 0 (going_in r)) refl (le_trans _ _ _ t.0 h) (λ _. l) in
    let d = if_none (denied_in r) q (ltb 0 (denied_in r)) refl (le_trans _ _ _ t.1 h) (λ _. le_trans _ _ _ l m) in
    let a = lot_none r.retained.one E.one (le_trans _ _ _ f.0 k) in
    let b = lot_none r.retained.two E.two (le_trans _ _ _ f.1 k) in
    let c = lot_none r.retained.three E.three (le_trans _ _ _ f.2 k) in
    let e = lot_none r.retained.four E.four (le_trans _ _ _ f.3 k) in
    adds _ _ _ _ _ _ g d a b c e
  where
    lot_none : (x : Lot) → ExitFits p q x → exit_if x ≤ 0 → count_of x ≤ 0
    lot_none x f h = if_none (count_of x) x.exit (ltb 0 (count_of x)) refl h (λ z. let k = f z in omega (arith, k))

    adds : (u v w x y z : ℕ) → u ≤ 0 → v ≤ 0 → w ≤ 0 → x ≤ 0 → y ≤ 0 → z ≤ 0 → u + v + (w + x + y + z) ≤ 0
    adds u v w x y z g d a b c e = omega arith

module _ (a : Auction) (S : Stands a) (p : ℕ) (hp : p < a.terms.products) where
  -- no tranche is held at more
  pub paid_most : (b x : ℕ) → b < a.terms.bidders → HoldsAt a b p x → x ≤ paid_on a p
  paid_most b x hb (inl h) = subst (λ y. y ≤ paid_on a p) (sym h.1) (paid_going a S b p hb hp h.0)
  paid_most b x hb (inr (inl h)) = subst (λ y. y ≤ paid_on a p) (sym h.1) (paid_denied a S b p hb hp h.0)
  paid_most b x hb (inr (inr h)) = subst (λ y. y ≤ paid_on a p) (sym h.3) (paid_retained a S b p hb hp h.0 h.1 h.2)

  -- with a tranche held, one is held at it
  pub paid_some : 0 < held a.records a.terms.bidders p → (b : ℕ) × (b < a.terms.bidders) × HoldsAt a b p (paid_on a p)
  paid_some h = by (eqb (highest_up_to a p a.terms.bidders) 0) refl
    where
      by : (t : Bool) → eqb (highest_up_to a p a.terms.bidders) 0 ≡ t
          → (b : ℕ) × (b < a.terms.bidders) × HoldsAt a b p (cond t (price_at a p) (highest_up_to a p a.terms.bidders))
      by true e =
          let k = sum_pos (λ b. held_in (record_of a b p)) a.terms.bidders h in
          let z : highest_up_to a p a.terms.bidders ≤ 0 = subst (λ x. x ≤ 0) (sym (eqb-true _ 0 e)) (omega arith) in
          let w = S.prices p hp in
          let y = none_held (price_at a p) (before_at a p) (record_of a k.0 p) w.0 w.1 (S.exits k.0 p k.1 hp)
          (le_trans _ _ _ (highest_ge a p a.terms.bidders k.0 k.1) z) in
          let l = k.2 in
          absurd (let f : ⊥ = omega arith in f)
      by false e =
          let d = eqb-false _ 0 e in
          let l : 0 < highest_up_to a p a.terms.bidders = not_none _ d in
          let k = highest_of a p a.terms.bidders l in
          (k.0, k.1, record_held _ _ _ _ l k.2)

  -- and with none, it is the going price
  pub paid_none : held a.records a.terms.bidders p ≡ 0 → paid_on a p ≡ price_at a p
  paid_none h = by (eqb (highest_up_to a p a.terms.bidders) 0) refl
    where
      by : (t : Bool) → eqb (highest_up_to a p a.terms.bidders) 0 ≡ t
          → cond t (price_at a p) (highest_up_to a p a.terms.bidders) ≡ price_at a p
      by true e = refl
      by false e =
          let d = eqb-false _ 0 e in
          let l : 0 < highest_up_to a p a.terms.bidders = not_none _ d in
          let k = highest_of a p a.terms.bidders l in
          let s = some_held _ _ _ _ (record_held _ _ (record_of a k.0 p) _ l k.2) in
          let g = sum_ge (λ b. held_in (record_of a b p)) a.terms.bidders k.0 k.1 in
          absurd (let f : ⊥ = omega arith in f)
