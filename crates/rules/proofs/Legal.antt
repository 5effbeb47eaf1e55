-- A standing state, from its test and back. Assumes nothing.
use mathlib.Core.Path.{◌≡◌, refl}
use mathlib.Core.Bool.{Bool, true, false, ◌&&◌}
use Prim.Native.Nat.{ℕ, ◌+◌, ◌*◌, ◌/◌, ◌%◌, ◌≤◌, ◌<◌}
use native.Mathlib.Omega.{arith}
use borrow.Author.Tests.{ltb-true, ltb-false, lt-ltb, le-ltb, leb-true, leb-false, eqb-true, eq-eqb, ne_eqb}
use lib.Dec.{eqb, leb, ltb}
use Rattle.rules.specs.declared.Setup.{Setup}
use Rattle.rules.specs.declared.Auction.{Auction}
use Rattle.rules.specs.Settings.{setup, within_limits, item_within, bidder_within, row_within, least_decrement, target_of, cap_of, start_of, percent_of}
use Rattle.rules.specs.Held.{record_at, held, ticked, excess}
use Rattle.rules.specs.Bid.{record_of, price_at, before_at, mark_at, has_filed}
use Rattle.rules.specs.Legal.{implies, kept_on, is_open, may_have_mark, mark_stands, product_stands, record_zero, record_within, record_stands, bidder_stands, slot_stands, open_stands, stands}
use Rattle.rules.proofs.Sums.{and_left, and_right}
use Rattle.rules.proofs.Lists.{both, all_give, all_take}
use Rattle.rules.proofs.Signed.{above_true, lt_above}
use Rattle.rules.proofs.Tests.{told, shown, sure_true}
use Rattle.rules.proofs.LotLaws.{exits_take, exits_give}
use Rattle.rules.specs.Stands.{Limits, Stands}

-- ---- settings

module _ (t : Setup) (w : within_limits t ≡ true) where
  products_most : t.terms.products ≤ 8
  products_most = search told

  bidders_most : t.terms.bidders ≤ 32
  bidders_most = search told

  rows_most : t.decrements.rows ≤ 8
  rows_most = search told

  all_items : (p : ℕ) → p < 8 → item_within t p ≡ true
  all_items = all_take (item_within t) 8 (search told)

  all_bidders : (b : ℕ) → b < 32 → bidder_within t b ≡ true
  all_bidders = all_take (bidder_within t) 32 (search told)

  all_rows : (i : ℕ) → i < 8 → row_within least_decrement t.decrements i ≡ true
  all_rows = all_take (row_within least_decrement t.decrements) 8 (search told)

  percent_by : (i : ℕ) (s : Bool) → ltb i t.decrements.rows ≡ s → i < 8 → percent_of t.decrements i ≤ 60000
  percent_by i true e h = let x = rw e at (all_rows i h) in search told
  percent_by i false e h = let x = rw e at (all_rows i h) in let z : percent_of t.decrements i ≡ 0 = search told in omega arith

  item_in_lem : (p : ℕ) → p < t.terms.products
      → (1 ≤ target_of t p) × (target_of t p ≤ 200) × (1 ≤ cap_of t p) × (cap_of t p ≤ target_of t p) × (1 ≤ start_of t p) × (start_of t p ≤ 99999)
  item_in_lem p h = let x = rw (lt-ltb p t.terms.products h) at (all_items p (omega (arith, products_most))) in search told

  -- settings within limits, from their test
  pub limits_take : Limits t
  limits_take = record {
    some_products = search told;
    products = products_most;
    some_bidders = search told;
    bidders = bidders_most;
    some_rows = search told;
    rows = rows_most;
    unit = search told;
    target = λ p h. search (item_in_lem p h);
    ranked = λ p g h. let x = rw (lt-ltb p t.terms.products h, ne_eqb p 0 (λ z. omega arith)) at (all_items p (omega (arith, products_most))) in search told;
    cap = λ p h. search (item_in_lem p h);
    start = λ p h. search (item_in_lem p h);
    no_item = λ p h l. let x = rw (le-ltb p t.terms.products h) at (all_items p l) in search told;
    statewide = search told;
    initial = λ b h. let x = rw (lt-ltb b t.terms.bidders h) at (all_bidders b (omega (arith, bidders_most))) in search told;
    no_bidder = λ b h l. let x = rw (le-ltb b t.terms.bidders h) at (all_bidders b l) in search told;
    first_percent = let x = rw (lt-ltb 0 t.decrements.rows (search told)) at (all_rows 0 (omega arith)) in search told;
    rising = λ i g h. let x = rw (lt-ltb i t.decrements.rows h, ne_eqb i 0 (λ z. omega arith)) at (all_rows i (omega (arith, rows_most))) in search told;
    percent = λ i. percent_by i (ltb i t.decrements.rows) refl;
    decrement = λ i h. let x = rw (lt-ltb i t.decrements.rows h) at (all_rows i (omega (arith, rows_most))) in search told;
    no_row = λ i h l. let x = rw (le-ltb i t.decrements.rows h) at (all_rows i l) in search told;
  }

-- ---- the state

-- a test with one that fails
and_off : (t : Bool) → (t && false) ≡ false
and_off true = refl
and_off false = refl

module _ (a : Auction) (s : stands a ≡ true) where
  limits : Limits (setup a)
  unfolding stands
  limits = limits_take (setup a) (search told)

  product_in : (p : ℕ) → p < 8 → product_stands a p ≡ true
  unfolding stands
  product_in = all_take (product_stands a) 8 (search told)

  record_in : (k : ℕ) → k < 256 → record_stands a k ≡ true
  unfolding stands
  record_in = all_take (record_stands a) 256 (search told)

  bidder_in : (b : ℕ) → b < 32 → bidder_stands a b ≡ true
  unfolding stands
  bidder_in = all_take (bidder_stands a) 32 (search told)

  slot_in : (b : ℕ) → b < 32 → slot_stands a b ≡ true
  unfolding stands
  slot_in = all_take (slot_stands a) 32 (search told)

  record_of_lem : (b p : ℕ) → b < a.terms.bidders → p < a.terms.products
      → record_within (price_at a p) (before_at a p) (cap_of (setup a) p) (record_of a b p) ≡ true
  record_of_lem b p hb hp =
      let L = limits in
      let q : (b * 8 + p) / 8 ≡ b = omega arith in
      let r : (b * 8 + p) % 8 ≡ p = omega arith in
      rw (q, r, lt-ltb b a.terms.bidders hb, lt-ltb p a.terms.products hp) at (record_in (b * 8 + p) (omega arith))

  -- a standing state, from its test
  pub stands_take : Stands a
  unfolding stands
  stands_take = record {
    within = search told;
    limits = limits;
    some_round = search told;
    round = search told;
    prices = λ p h. let x = rw (lt-ltb p a.terms.products h) at (product_in p (omega (arith, limits.products))) in search told;
    fell = λ p h o k.
        let x = rw (lt-ltb p a.terms.products h, o, lt_above (held a.records a.terms.bidders p) (target_of (setup a) p) k)
        at (product_in p (omega (arith, limits.products))) in
        search told;
    kept = λ p h k.
        let x = rw (lt-ltb p a.terms.products h, lt-ltb 0 (kept_on a p) k) at (product_in p (omega (arith, limits.products))) in
        search told;
    no_price = λ p h l. let x = rw (le-ltb p a.terms.products h) at (product_in p l) in search told;
    marks = λ p h k.
        let x = rw (lt-ltb p a.terms.products h, lt-ltb 0 (mark_at a p) k) at (product_in p (omega (arith, limits.products))) in
        let one : mark_at a p ≤ 1 = search told in
        let over : ticked a p ≡ true = search told depth 9 in
        let op : is_open a ≡ true = search told depth 9 in
        let late : 2 ≤ a.round = search told depth 9 in
        (omega arith, op, late, above_true (held a.records a.terms.bidders p) (target_of (setup a) p) over);
    no_mark = λ p h l. let x = rw (le-ltb p a.terms.products h) at (product_in p l) in search told;
    exits = λ b p hb hp. let x = record_of_lem b p hb hp in exits_take (price_at a p) (before_at a p) (record_of a b p).retained (search told);
    caps = λ b p hb hp. let x = record_of_lem b p hb hp in search told;
    no_bidder = λ k l h. rw (le-ltb (k / 8) a.terms.bidders h) at (record_in k l);
    no_product = λ k l h. rw (le-ltb (k % 8) a.terms.products h, and_off) at (record_in k l);
    eligible = λ b h.
        let x = rw (lt-ltb b a.terms.bidders h) at (bidder_in b (omega (arith, limits.bidders))) in
        omega (arith, leb-true);
    no_free = λ b h l. let x = rw (le-ltb b a.terms.bidders h) at (bidder_in b l) in search told;
    slots = slot_in;
    phase = search told;
  }

-- ---- an open state

module _ (a : Auction) (S : Stands a) (o : is_open a ≡ true) where
  open_in : open_stands a ≡ true
  open_in = rw o at S.phase

  -- in round 1 nothing is held,
  pub first_none : a.round ≡ 1 → (k : ℕ) → k < 256 → record_zero (record_at a.records k) ≡ true
  first_none e =
      let x = rw (eq-eqb a.round 1 e) at open_in in
      all_take (λ k. record_zero (record_at a.records k)) 256 (search told)

  -- later there is an excess,
  pub later_excess : (a.round ≡ 1 → ⊥) → 0 < excess a
  later_excess d = let x = rw (ne_eqb a.round 1 d) at open_in in search told

  -- and in round 2 nothing is kept
  pub second_none : a.round ≡ 2 → (p : ℕ) → p < a.terms.products → kept_on a p ≡ 0
  second_none e p h =
      let x = rw (ne_eqb a.round 1 (λ z. omega arith), eq-eqb a.round 2 e) at open_in in
      eqb-true _ _ (all_take (λ p. eqb (kept_on a p) 0) a.terms.products (search told) p h)

-- ---- and back

-- an implication by its proof
pub implied : (t u : Bool) → (t ≡ true → u ≡ true) → implies t u ≡ true
implied true u h = h refl
implied false u h = refl

-- a later round with an excess is open, where in round 2 nothing is kept
pub later_open : (a : Auction) → (a.round ≡ 1 → ⊥) → 0 < excess a
    → (a.round ≡ 2 → (p : ℕ) → p < a.terms.products → kept_on a p ≡ 0) → open_stands a ≡ true
later_open a d h k =
    let x = lt-ltb 0 (excess a) h in
    rw (ne_eqb a.round 1 d) (both x (implied (eqb a.round 2) _ (λ e.
    let y = all_give (λ p. eqb (kept_on a p) 0) a.terms.products (λ p l. eq-eqb _ 0 (k (eqb-true _ _ e) p l)) in search shown)))

module _ (a : Auction) (S : Stands a) where
  product_by : (p : ℕ) → p < 8 → (t : Bool) → ltb p a.terms.products ≡ t → product_stands a p ≡ true
  product_by p l true e =
      let h = ltb-true p a.terms.products e in
      let x = S.prices p h in
      let f = implied (is_open a && ticked a p) (ltb (price_at a p) (before_at a p)) (λ o.
      lt-ltb _ _ (S.fell p h (and_left (is_open a) (ticked a p) o)
      (above_true (held a.records a.terms.bidders p) (target_of (setup a) p) (and_right (is_open a) (ticked a p) o)))) in
      let k = implied (ltb 0 (kept_on a p))
      (ltb (price_at a p) (before_at a p) && eqb (held a.records a.terms.bidders p) (target_of (setup a) p)) (λ o.
      let y = S.kept p h (ltb-true 0 (kept_on a p) o) in search shown) in
      let m : mark_stands a p ≡ true = implied (ltb 0 (mark_at a p)) (leb (mark_at a p) 1 && may_have_mark a p) (λ o.
      let y = S.marks p h (ltb-true 0 (mark_at a p) o) in
      let one : mark_at a p ≤ 1 = omega (arith, y.0) in
      let up = lt_above (held a.records a.terms.bidders p) (target_of (setup a) p) y.3 in search shown) in
      rw e (search shown)
  product_by p l false e =
      let x = S.no_price p (ltb-false p a.terms.products e) l in
      let y = S.no_mark p (ltb-false p a.terms.products e) l in
      rw e (search shown)

  record_by : (k : ℕ) → k < 256 → (t u : Bool) → ltb (k / 8) a.terms.bidders ≡ t → ltb (k % 8) a.terms.products ≡ u
      → record_stands a k ≡ true
  record_by k l true true e f =
      let z : k / 8 * 8 + k % 8 ≡ k = omega arith in
      let hb = ltb-true (k / 8) a.terms.bidders e in
      let hp = ltb-true (k % 8) a.terms.products f in
      let x = exits_give (price_at a (k % 8)) (before_at a (k % 8)) (record_of a (k / 8) (k % 8)).retained (S.exits (k / 8) (k % 8) hb hp) in
      let c = S.caps (k / 8) (k % 8) hb hp in
      let r : record_within (price_at a (k % 8)) (before_at a (k % 8)) (cap_of (setup a) (k % 8)) (record_of a (k / 8) (k % 8)) ≡ true = search shown in
      rw (e, f) (rw z at r)
  record_by k l true false e f = rw (e, f) (S.no_product k l (ltb-false _ _ f))
  record_by k l false u e f = rw e (S.no_bidder k l (ltb-false _ _ e))

  bidder_by : (b : ℕ) → b < 32 → (t : Bool) → ltb b a.terms.bidders ≡ t → bidder_stands a b ≡ true
  bidder_by b l true e = rw e (sure_true _ (λ n. omega (arith, S.eligible b (ltb-true _ _ e), leb-false)))
  bidder_by b l false e = rw e (eq-eqb _ _ (S.no_free b (ltb-false _ _ e) l))

  -- a standing state passes its test
  pub stands_give : stands a ≡ true
  unfolding stands
  stands_give =
      let p = all_give (product_stands a) 8 (λ p l. product_by p l (ltb p a.terms.products) refl) in
      let r = all_give (record_stands a) 256 (λ k l. record_by k l (ltb (k / 8) a.terms.bidders) (ltb (k % 8) a.terms.products) refl refl) in
      let b = all_give (bidder_stands a) 32 (λ b l. bidder_by b l (ltb b a.terms.bidders) refl) in
      let s = all_give (slot_stands a) 32 S.slots in
      search shown depth 9

-- only bidders in use have filed
pub filed_in_use : (a : Auction) → Stands a → (b : ℕ) → b < 32 → has_filed a b ≡ true → b < a.terms.bidders
filed_in_use a S b h e = let x = rw e at (S.slots b h) in search told
