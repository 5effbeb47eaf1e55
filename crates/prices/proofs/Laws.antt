-- The next prices, product by product and of all products; and of the book that they are worked out from. Assumes nothing.
use mathlib.Core.Path.{◌≡◌, refl, sym, ap, ap₂, ◌∙◌}
use mathlib.Core.Bool.{Bool, true, false, ◌&&◌, cond}
use mathlib.Core.List.{List}
use Prim.Native.Nat.{ℕ, ◌*◌, ◌/◌, ◌≤◌, ◌<◌}
use native.Mathlib.Omega.{arith}
use borrow.Author.Tests.{le-ltb, lt-ltb, ltb-true, ltb-false}
use lib.Dec.{eqb, ltb}
use lib.ListN.{get_or}
use mir.Val.{bool_byte}
use Rattle.std.specs.Prelude.{is_some}
use Rattle.rules.specs.declared.Price.{Price}
use Rattle.rules.specs.declared.Price.TheVariants.{Kwh}
use Rattle.rules.specs.declared.GoingPrice.{GoingPrice}
use Rattle.rules.specs.declared.Decrements.{Decrements}
use Rattle.rules.specs.declared.Auction.{Auction}
use Rattle.rules.specs.Count.{sum_up_to, first_up_to}
use Rattle.rules.specs.Units.{unit_of, amount_of, quote}
use Rattle.rules.specs.Held.{standing, standing_of, above, above_zero}
use Rattle.rules.specs.Bid.{one_if, price_at}
use Rattle.rules.specs.Price.{Override, fallen, price_fallen, decrement_up_to, decrement_for, is_given, decrement_by, next_price, next_before}
use Rattle.rules.specs.Round.{override_for, price_next, mark_next, before_next, stops}
use Rattle.rules.proofs.Sums.{sum_ext}
use Rattle.rules.proofs.Units.{amount_of_lem}
use Rattle.rules.proofs.Signed.{above_is, above_zero_lem}
use Rattle.table.proofs.Laws.{first_ext}
use Rattle.storing.specs.Written.{amount_at}
use Rattle.prices.specs.declared.Next.{Next}
use Rattle.prices.specs.declared.Lanes.{Lanes}
use Rattle.prices.specs.declared.Outlook.{Outlook}
use Rattle.prices.specs.Outlook.{NextOf, WorkedOut, target_on, standing_on, at_one, Foresees, Shows}

-- ---- one product

module _ (d : Decrements) (o : Override) (h t : ℕ) (x : Price) {n : ℕ} (v : n ≡ above_zero (standing h t)) where
  pub not_over : n ≡ 0 → above (standing h t) ≡ false
  not_over z = above_is h t ∙ le-ltb t h (omega (arith, above_zero_lem h t))

  pub is_over_lem : (n ≡ 0 → ⊥) → above (standing h t) ≡ true
  is_over_lem l = above_is h t ∙ lt-ltb t h (omega (arith, above_zero_lem h t, l))

  -- "Other prices stay."
  pub stays : n ≡ 0 → NextOf d o h t x (record { price = x; overridden = false })
  stays z = record {
    price = sym (ap (λ b. cond b (fallen (amount_of x) (decrement_by o (decrement_for d (above_zero (standing h t)) t))) (amount_of x)) (not_over z));
    overridden = sym (ap (λ b. b && is_given o) (not_over z));
  }

  -- "the cut is p x decrement / 10,000, rounded half up, at least 1"
  pub falls : (n ≡ 0 → ⊥) → (pct e u : ℕ) {r : Price} {w : Bool} → pct ≡ 100 * n / t → e ≡ decrement_up_to d pct d.rows
      → u ≡ decrement_by o e → r ≡ price_fallen x u → w ≡ is_given o → NextOf d o h t x (record { price = r; overridden = w })
  falls l pct e u f g j k w =
      let z : e ≡ decrement_for d (above_zero (standing h t)) t = g ∙ ap (λ p. decrement_up_to d p d.rows) (f ∙ ap (λ n. 100 * n / t) v) in
      record {
        price = amount_of_lem (unit_of x) (fallen (amount_of x) u) k ∙ ap (fallen (amount_of x)) (j ∙ ap (decrement_by o) z)
            ∙ sym (ap (λ b. cond b (fallen (amount_of x) (decrement_by o (decrement_for d (above_zero (standing h t)) t))) (amount_of x)) (is_over_lem l));
        overridden = w ∙ sym (ap (λ b. b && is_given o) (is_over_lem l));
      }

  module _ (y : Price) {r : GoingPrice} (N : NextOf d o h t x r) where
    -- q stays with a price that stays, and is the price that falls
    pub before_stays : n ≡ 0 → WorkedOut d o h t x y (record { over = 0; going = r; before = y })
    before_stays z = record { over = omega arith; going = N; before = sym (ap (λ b. cond b (amount_of x) (amount_of y)) (not_over z)) }

-- ---- all products

-- what no place of a list of eight has
abbrev pub no_next : Next
no_next = record { over = 0; going = record { price = Kwh (record { 0 = 0 }); overridden = false }; before = Kwh (record { 0 = 0 }) }

-- a standing above zero is a number above zero
over_is : (h t o : ℕ) → o ≡ above_zero (standing h t) → ltb 0 o ≡ above (standing h t)
over_is h t o e = by (ltb t h) refl ∙ sym (above_is h t)
  where
    by : (b : Bool) → ltb t h ≡ b → ltb 0 o ≡ b
    by true f = let l = ltb-true t h f in lt-ltb 0 o (omega (arith, above_zero_lem h t))
    by false f = let l = ltb-false t h f in le-ltb 0 o (omega (arith, above_zero_lem h t))

pub byte_is : (t : Bool) → bool_byte t ≡ one_if t
byte_is true = refl
byte_is false = refl

module _ (d : Decrements) (holds : List ℕ) (l : Lanes) where
  -- product p worked out
  abbrev pub WorkedOn : ℕ → Next → Type 0
  WorkedOn p n =
      WorkedOut d (override_for l.overrides p) (get_or holds p 0) (target_on d holds l p) (get_or l.price p (quote 0 0)).price
      (get_or l.before p (quote 0 0)).price n

  -- "a product above target is at price 1", of what was worked out
  abbrev pub bottom_at : List Next → ℕ → Bool
  bottom_at ns p = ltb 0 (get_or ns p no_next).over && eqb (amount_at l.price p) 1

  pub bottom_same : (ns : List Next) (m : ℕ) → ((p : ℕ) → p < m → WorkedOn p (get_or ns p no_next))
      → is_some (first_up_to (bottom_at ns) m) ≡ is_some (first_up_to (at_one d holds l) m)
  bottom_same ns m W =
      ap is_some (first_ext (bottom_at ns) (at_one d holds l) m
      (λ p h. ap (λ t. t && eqb (amount_at l.price p) 1) (over_is (get_or holds p 0) (target_on d holds l p) _ (W p h).over)))

-- ---- of the book that is shown

module _ {a z : Auction} {holds : List ℕ} {l : Lanes} {r : Outlook} (F : Foresees a holds l r) (W : Shows a z holds l)
    (few : a.terms.products ≤ 8) where
  standing_same : (p : ℕ) → p < 8 → standing_on a.decrements holds l p ≡ standing_of z p
  standing_same p h = ap₂ standing (W.held p h) (W.lanes.target p h)

  pub over_of : r.over ≡ sum_up_to (λ p. above_zero (standing_of z p)) z.terms.products
  over_of =
      F.over ∙ sum_ext _ _ a.terms.products (λ p h. ap above_zero (standing_same p (omega arith)))
      ∙ ap (λ t. sum_up_to (λ p. above_zero (standing_of z p)) t.products) (sym W.terms)

  pub stops_of : r.stops ≡ stops z
  stops_of =
      F.stops
      ∙ ap₂ (λ q x. cond (is_some q) true (eqb x 4095)) (first_ext _ _ a.terms.products (λ p h.
      ap₂ (λ z x. above z && eqb x 1) (standing_same p (omega arith)) (W.lanes.price p (omega arith)))
      ∙ ap (λ t. first_up_to (λ p. above (standing_of z p) && eqb (price_at z p) 1) t.products) (sym W.terms)) (sym W.round)

  pub price_of_lem : (p : ℕ) → p < 8 → amount_at r.price p ≡ price_next l.overrides z p
  price_of_lem p h =
      F.price p h
      ∙ (λ i. (next_price (sym W.decrements i) (override_for l.overrides p) (standing_same p h i) (W.lanes.target p h i) (W.lanes.price p h i)).price)

  pub mark_of : (p : ℕ) → p < 8 → get_or r.mark p 0 ≡ mark_next l.overrides z p
  mark_of p h =
      F.mark p h
      ∙ (λ i. one_if (next_price (sym W.decrements i) (override_for l.overrides p) (standing_same p h i) (W.lanes.target p h i) (W.lanes.price p h i)).overridden)

  pub before_of : (p : ℕ) → p < 8 → amount_at r.before p ≡ before_next z p
  before_of p h = F.before p h ∙ (λ i. next_before (standing_same p h i) (W.lanes.price p h i) (W.lanes.before p h i))
