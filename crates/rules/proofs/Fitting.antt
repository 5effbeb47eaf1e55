-- Every field of a standing state fits its bytes, so that what is stored of one is loaded. Assumes nothing.
use mathlib.Core.Path.{◌≡◌, refl, ap, subst}
use mathlib.Core.Bool.{Bool, true, false, cond}
use mathlib.Core.List.{List}
use Prim.Native.Nat.{ℕ, ◌+◌, ◌*◌, ◌/◌, ◌%◌, ◌≤◌, ◌<◌}
use native.Mathlib.Omega.{arith}
use borrow.Author.Tests.{eqb-true, ltb-true, ltb-false, le-ltb}
use lib.ListN.{get_or}
use lib.Dec.{eqb, ltb}
use Rattle.rules.specs.declared.Lots.{Lots}
use Rattle.rules.specs.declared.Line.{Line}
use Rattle.rules.specs.declared.Record.{Record}
use Rattle.rules.specs.declared.Auction.{Auction}
use Rattle.rules.specs.Answers.{closed, stopped}
use Rattle.rules.specs.Settings.{setup, target_of, cap_of, start_of, initial_of, decrement_of}
use Rattle.rules.specs.Lots.{total, count_of, lots_zero}
use Rattle.rules.specs.Card.{no_line, lots_fit, line_fits, line_zero}
use Rattle.rules.specs.Held.{going_in, denied_in, held_in, record_at, place, free_of}
use Rattle.rules.specs.Bid.{bid_in, record_of, price_at, before_at, mark_at, on_product, judged, has_filed, slot_of}
use Rattle.rules.specs.Legal.{is_open, record_zero, zero_from}
use Rattle.rules.specs.Layout.{stored, loaded}
use Rattle.rules.proofs.Sums.{sum_le}
use Rattle.rules.proofs.Lists.{all_take, list_at}
use Rattle.rules.proofs.Parts.{target_is, cap_is, start_is, initial_is}
use Rattle.rules.proofs.Tests.{told, shown}
use Rattle.rules.specs.Stands.{Long, Stands}
use Rattle.rules.proofs.Judged.{judged_take}
use Rattle.rules.proofs.Priorities.{sum_const, priority_small}
use Rattle.rules.proofs.LotLaws.{Most, exits_most, zero_none}
use Rattle.rules.proofs.Storing.{LotsFit, Fits, loads}

-- lots of no more than a byte's tranches fit a card
lots_fit_lem : (q : ℕ) (l : Lots) → q < 131072 → total l < 256 → Most q l → lots_fit l ≡ true
lots_fit_lem q l h n x =
    let n1 : count_of l.one < 256 = omega arith in
    let n2 : count_of l.two < 256 = omega arith in
    let n3 : count_of l.three < 256 = omega arith in
    let n4 : count_of l.four < 256 = omega arith in
    let x1 : l.one.exit < 131072 = omega (arith, x.one) in
    let x2 : l.two.exit < 131072 = omega (arith, x.two) in
    let x3 : l.three.exit < 131072 = omega (arith, x.three) in
    let x4 : l.four.exit < 131072 = omega (arith, x.four) in
    search shown

fits_if : (l : Line) → bid_in l < 256 → lots_fit l.withdrawn ≡ true → l.priority < 8 → line_fits l ≡ true
fits_if l b w p = search shown

zero_fits : (l : Line) → line_zero l ≡ true → line_fits l ≡ true
zero_fits l z =
    let b : bid_in l ≡ 0 = search told in
    let w : lots_zero l.withdrawn ≡ true = search told in
    let p : l.priority ≡ 0 = search told in
    fits_if l (omega arith) (ap lots_fit (zero_none l.withdrawn w)) (omega arith)

-- lots that fit a card fit their bytes
bytes_fit : (l : Lots) → lots_fit l ≡ true → LotsFit l
bytes_fit l e =
    let x1 : l.one.exit < 131072 = search told in
    let x2 : l.two.exit < 131072 = search told in
    let x3 : l.three.exit < 131072 = search told in
    let x4 : l.four.exit < 131072 = search told in
    record {
      one = (search told, omega arith);
      two = (search told, omega arith);
      three = (search told, omega arith);
      four = (search told, omega arith);
    }

-- a line past those in use
past_fits : (ls : List Line) (n : ℕ) → zero_from ls n ≡ true → (p : ℕ) → n ≤ p → p < 8 → line_fits (on_product ls p) ≡ true
past_fits ls n z p h l =
    zero_fits (on_product ls p) (rw (le-ltb p n h) at (all_take (λ p. cond (ltb p n) true (line_zero (on_product ls p))) 8 z p l))

module _ (a : Auction) (S : Stands a) where
  -- a line that is accepted
  accepted_fits : (b p : ℕ) (ls : List Line) → b < a.terms.bidders → p < a.terms.products → judged a b ls ≡ 0
      → line_fits (on_product ls p) ≡ true
  accepted_fits b p ls hb hp e =
      let A = judged_take a b ls e in
      let c = A.caps p hp in
      let w = A.withdrawn p hp in
      let h = S.caps b p hb hp in
      let m = S.limits.cap p hp in
      let t = S.limits.target p hp in
      let x = exits_most (price_at a p) (before_at a p) (on_product ls p).withdrawn (A.exits p hp) in
      fits_if (on_product ls p) (omega arith)
      (lots_fit_lem (before_at a p) (on_product ls p).withdrawn (omega (arith, S.prices p hp, S.limits.start p hp)) (omega arith) x)
      (priority_small A S.limits.products p hp)

  slot_by : (b p : ℕ) → b < 32 → p < 8 → (t u : Bool) → has_filed a b ≡ t → ltb p a.terms.products ≡ u
      → line_fits (on_product (slot_of a b) p) ≡ true
  slot_by b p hb hp true true e f =
      let x = rw e at (S.slots b hb) in
      accepted_fits b p (slot_of a b) (search told) (ltb-true _ _ f) (search told)
  slot_by b p hb hp true false e f =
      let x = rw e at (S.slots b hb) in
      past_fits (slot_of a b) a.terms.products (search told) p (ltb-false _ _ f) hp
  slot_by b p hb hp false u e f = past_fits (slot_of a b) 0 (rw e at (S.slots b hb)) p (omega arith) hp

  -- every line of a standing state fits a card
  pub lines_fit : (k : ℕ) → k < 256 → line_fits (get_or a.cards.lines k no_line) ≡ true
  lines_fit k h =
      let z : k / 8 * 8 + k % 8 ≡ k = omega arith in
      let x = slot_by (k / 8) (k % 8) (omega arith) (omega arith) (has_filed a (k / 8)) (ltb (k % 8) a.terms.products) refl refl in
      rw (list_at (λ p. get_or a.cards.lines (place (k / 8) p) no_line) no_line 8 (k % 8) (omega arith), z) at x

  statewide_most : a.terms.statewide.0 ≤ 1600
  statewide_most =
      let s = sum_le (target_of (setup a)) (λ p. 200) a.terms.products (λ p h. (S.limits.target p h).1) in
      omega (arith, sum_const 200 a.terms.products, S.limits.statewide, S.limits.products)

  product_by : (p : ℕ) → p < 8 → (t : Bool) → ltb p a.terms.products ≡ t
      → (target_of (setup a) p ≤ 200) × (cap_of (setup a) p ≤ 200) × (start_of (setup a) p ≤ 99999) × (price_at a p ≤ 99999) × (before_at a p ≤ 99999)
  product_by p h true e =
      let l = ltb-true p a.terms.products e in
      omega (arith, S.limits.target p l, S.limits.cap p l, S.limits.start p l, S.prices p l)
  product_by p h false e =
      let l = ltb-false p a.terms.products e in
      omega (arith, S.limits.no_item p l h, S.no_price p l h)

  -- the amounts of one product
  pub product_small : (p : ℕ) → p < 8
      → (target_of (setup a) p ≤ 200) × (cap_of (setup a) p ≤ 200) × (start_of (setup a) p ≤ 99999) × (price_at a p ≤ 99999) × (before_at a p ≤ 99999)
  product_small p h = product_by p h (ltb p a.terms.products) refl

  mark_by : (p : ℕ) → p < 8 → (t u : Bool) → ltb p a.terms.products ≡ t → ltb 0 (mark_at a p) ≡ u → mark_at a p ≤ 1
  mark_by p h true true e f = omega (arith, S.marks p (ltb-true _ _ e) (ltb-true _ _ f))
  mark_by p h true false e f = omega (arith, ltb-false 0 (mark_at a p) f)
  mark_by p h false u e f = omega (arith, S.no_mark p (ltb-false _ _ e) h)

  bidder_by : (b : ℕ) → b < 32 → (t : Bool) → ltb b a.terms.bidders ≡ t → (initial_of (setup a) b ≤ 1600) × (free_of a b ≤ 1600)
  bidder_by b h true e =
      let l = ltb-true b a.terms.bidders e in
      omega (arith, statewide_most, S.limits.initial b l, S.eligible b l)
  bidder_by b h false e =
      let l = ltb-false b a.terms.bidders e in
      omega (arith, S.limits.no_bidder b l h, S.no_free b l h)

  -- of one bidder
  pub bidder_small : (b : ℕ) → b < 32 → (initial_of (setup a) b ≤ 1600) × (free_of a b ≤ 1600)
  bidder_small b h = bidder_by b h (ltb b a.terms.bidders) refl

  decrement_by_lem : (i : ℕ) → i < 8 → (t : Bool) → ltb i a.decrements.rows ≡ t → decrement_of a.decrements i ≤ 500
  decrement_by_lem i h true e = (S.limits.decrement i (ltb-true _ _ e)).1
  decrement_by_lem i h false e = omega (arith, S.limits.no_row i (ltb-false _ _ e) h)

  abbrev Small : Record → Type 0
  Small r = (held_in r ≤ 200) × (lots_fit r.retained ≡ true)

  zero_small : (r : Record) → record_zero r ≡ true → Small r
  zero_small r z =
      let g : going_in r ≡ 0 = search told in
      let d : denied_in r ≡ 0 = search told in
      let e = zero_none r.retained (search told) in
      let n = ap total e in
      (omega arith, ap lots_fit e)

  record_of_lem : (b p : ℕ) → b < a.terms.bidders → p < a.terms.products → Small (record_of a b p)
  record_of_lem b p hb hp =
      let c : held_in (record_of a b p) ≤ 200 = omega (arith, S.caps b p hb hp, S.limits.cap p hp, S.limits.target p hp) in
      let x = exits_most (price_at a p) (before_at a p) (record_of a b p).retained (S.exits b p hb hp) in
      (c, lots_fit_lem (before_at a p) (record_of a b p).retained (omega (arith, S.prices p hp, S.limits.start p hp)) (omega arith) x)

  record_by : (k : ℕ) → k < 256 → (t u : Bool) → ltb (k / 8) a.terms.bidders ≡ t → ltb (k % 8) a.terms.products ≡ u
      → Small (record_at a.records k)
  record_by k l true true e f =
      let z : k / 8 * 8 + k % 8 ≡ k = omega arith in
      subst (λ i. Small (record_at a.records i)) z (record_of_lem (k / 8) (k % 8) (ltb-true _ _ e) (ltb-true _ _ f))
  record_by k l true false e f = zero_small (record_at a.records k) (S.no_product k l (ltb-false _ _ f))
  record_by k l false u e f = zero_small (record_at a.records k) (S.no_bidder k l (ltb-false _ _ e))

  -- of one record
  pub record_small : (k : ℕ) → k < 256 → (held_in (record_at a.records k) ≤ 200) × (lots_fit (record_at a.records k).retained ≡ true)
  record_small k h = record_by k h (ltb (k / 8) a.terms.bidders) (ltb (k % 8) a.terms.products) refl refl

  phase_by : (t u : Bool) → is_open a ≡ t → eqb a.phase closed ≡ u → (1 ≤ a.phase) × (a.phase ≤ 3)
  phase_by true u e f = omega (arith, eqb-true a.phase 1 e)
  phase_by false true e f = omega (arith, eqb-true a.phase 2 f)
  phase_by false false e f =
      let x = rw (e, f) at S.phase in
      let z : a.phase ≡ stopped = search told in
      omega arith

  -- open, closed or stopped
  pub phase_small : (1 ≤ a.phase) × (a.phase ≤ 3)
  phase_small = phase_by (is_open a) (eqb a.phase closed) refl refl

  line_small : (k : ℕ) → k < 256
      → (bid_in (get_or a.cards.lines k no_line) < 256) × (lots_fit (get_or a.cards.lines k no_line).withdrawn ≡ true) × ((get_or a.cards.lines k no_line).priority < 8)
  line_small k h = let x = lines_fit k h in search told

  -- the fields of a standing state fit their bytes; of the bitmap it is said, since its bits past 32 are no bidder's
  pub fits : a.cards.filed < 4294967296 → Fits a
  fits h = record {
    phase = omega (arith, phase_small);
    unit = omega (arith, S.limits.unit);
    products = omega (arith, S.limits.products);
    bidders = omega (arith, S.limits.bidders);
    rows = omega (arith, S.limits.rows);
    round = omega (arith, S.round);
    statewide = omega (arith, statewide_most);
    filed = h;
    target = λ p l. omega (arith, product_small p l, target_is a p l);
    cap = λ p l. omega (arith, product_small p l, cap_is a p l);
    start = λ p l. omega (arith, product_small p l, start_is a p l);
    price = λ p l. omega (arith, product_small p l);
    before = λ p l. omega (arith, product_small p l);
    mark = λ p l. omega (arith, mark_by p l (ltb p a.terms.products) (ltb 0 (mark_at a p)) refl refl);
    initial = λ b l. omega (arith, bidder_small b l, initial_is a b l);
    free = λ b l. omega (arith, bidder_small b l);
    percent = λ i l. omega (arith, S.limits.percent i l);
    decrement = λ i l. omega (arith, decrement_by_lem i l (ltb i a.decrements.rows) refl);
    going = λ k l. omega (arith, record_small k l);
    denied = λ k l. omega (arith, record_small k l);
    retained = λ k l. bytes_fit (record_at a.records k).retained (record_small k l).1;
    bid = λ k l. (line_small k l).0;
    withdrawn = λ k l. bytes_fit (get_or a.cards.lines k no_line).withdrawn (line_small k l).1;
    priority = λ k l. omega (arith, (line_small k l).2);
  }

  -- a standing state that is stored is loaded
  pub standing_loads : Long a → a.cards.filed < 4294967296 → loaded (stored a) ≡ a
  standing_loads L h = loads a L (fits h)
