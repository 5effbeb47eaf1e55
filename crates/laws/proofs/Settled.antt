-- Step 5: closed, stopped, or the next round at the next prices. Assumes nothing.
use mathlib.Core.Path.{◌≡◌, refl, sym, ◌∙◌, ap, ap₂, subst}
use mathlib.Core.Bool.{Bool, true, false, cond}
use mathlib.Core.List.{List}
use Prim.Native.Nat.{ℕ, ◌+◌, ◌*◌, ◌-◌, ◌/◌, ◌%◌, ◌^◌, ◌≤◌, ◌<◌}
use native.Mathlib.Omega.{arith}
use native.Mathlib.Nat.{zero-div}
use borrow.Author.Tests.{eqb-true, eqb-false, eq-eqb, ltb-true, ltb-false, lt-ltb}
use lib.ListN.{length, get_or, replicate, length-replicate, get_or-replicate}
use lib.Dec.{eqb, ltb}
use Rattle.rules.specs.declared.Record.{Record}
use Rattle.rules.specs.declared.Lane.{Lane}
use Rattle.rules.specs.declared.Outbid.{Outbid}
use Rattle.rules.specs.declared.Auction.{Auction}
use Rattle.rules.specs.Count.{sum_up_to}
use Rattle.rules.specs.Answers.{bids_open, closed, stopped}
use Rattle.rules.specs.Units.{tranches}
use Rattle.rules.specs.Parts.{no_lane, with_phase, with_round, with_lanes, with_prices, with_marks}
use Rattle.rules.specs.Settings.{setup, target_of, cap_of, start_of, initial_of}
use Rattle.rules.specs.Card.{no_line, line_zero}
use Rattle.rules.specs.Lots.{lots_zero, ExitsFit}
use Rattle.rules.specs.Held.{nothing, going_in, denied_in, retained_in, held_in, kept_in, record_at, held, above_zero, standing_of, free_of, eligibility, excess}
use Rattle.rules.specs.Bid.{one_if, bid_in, record_of, price_at, before_at, on_product, slot_of, bid_on}
use Rattle.rules.specs.Price.{Override, decrement_for, fallen, is_given, decrement_by}
use Rattle.rules.specs.Accept.{place_at, held_of, kept_of, column, row_of}
use Rattle.rules.specs.Round.{override_for, overrides_fit, booked, at_rest, price_next, mark_next, before_next, onward, at_bottom, stops, settled}
use Rattle.rules.specs.Legal.{kept_on, is_open, record_zero, slot_stands, phase_stands}
use Rattle.rules.proofs.Sums.{sum_ext, sum_le, sum_ge, sum_add, sum_zero}
use Rattle.rules.proofs.Lists.{clash, both, all_give, list_at, list_long}
use Rattle.rules.proofs.LotLaws.{none_left, none_exit}
use Rattle.rules.proofs.Signed.{above_zero_lem}
use Rattle.rules.proofs.Legal.{later_open}
use Rattle.rules.specs.Stands.{Stands, Long}
use Rattle.rules.proofs.Places.{worth_of}
use Rattle.laws.proofs.Made.{NoRecord}
use Rattle.laws.proofs.Booked.{Booked}
use Rattle.laws.specs.OneCall.{PriceAfter, PriceBy}
use Rattle.laws.proofs.Prices.{cond_false, Priced, next, next_none, mark_low}
use Rattle.rules.proofs.Parts.{excess_same, price_anew, before_anew, prices_setup, mark_anew, price_stays, before_stays, marks_setup, free_anew, free_setup}

-- where a round closes: no award above a target, the target where it was filled, and for each bidder no less than it bid
pub record Closes (a z : Auction) : Type 0 where
  pub within : (p : ℕ) → p < a.terms.products → held z.records a.terms.bidders p ≤ target_of (setup a) p
  pub filled : (p : ℕ) → p < a.terms.products → target_of (setup a) p ≤ held a.records a.terms.bidders p
      → held z.records a.terms.bidders p ≡ target_of (setup a) p
  pub asked : (b : ℕ) → b < a.terms.bidders
      → sum_up_to (λ p. bid_in (bid_on a b p)) a.terms.products ≤ sum_up_to (λ p. held_in (record_of z b p)) a.terms.products

-- a record that holds nothing is 0
zero_back : (r : Record) → NoRecord r → record_zero r ≡ true
zero_back r N =
    both (eq-eqb _ _ N.going) (both (eq-eqb _ _ N.denied) (ap lots_zero N.lots))

module _ (a : Auction) (os : List Override) (o : Outbid) where
  abbrev m : ℕ
  m = a.terms.products

  abbrev n : ℕ
  n = a.terms.bidders

  abbrev goal : ℕ → ℕ
  goal = target_of (setup a)

  abbrev rest : Auction
  rest = at_rest closed a o

  -- the book o in some phase and round, at the prices and with the marks of some lanes
  abbrev with : ℕ → ℕ → List Lane → Auction
  with ph rd ls = with_phase (with_round (with_lanes rest ls) rd) ph

  abbrev price : List Lane → ℕ → ℕ
  price ls p = (get_or ls p no_lane).price

  abbrev before : List Lane → ℕ → ℕ
  before ls p = (get_or ls p no_lane).before

  abbrev mark : List Lane → ℕ → ℕ
  mark ls p = (get_or ls p no_lane).mark

  abbrev priced : Auction
  priced = with_prices rest (price_next os rest) (before_next rest)

  abbrev onwards : List Lane
  onwards = (with_marks priced (mark_next os rest)).lanes

  -- at rest the settings and the prices are those of before, and there are no marks
  rest_setup : setup rest ≡ setup a
  rest_setup = marks_setup (booked a o) (λ p. 0) ∙ free_setup a _

  rest_price : (p : ℕ) → p < 8 → price_at rest p ≡ price_at a p
  rest_price = price_stays (booked a o) (λ p. 0)

  rest_before : (p : ℕ) → p < 8 → before_at rest p ≡ before_at a p
  rest_before = before_stays (booked a o) (λ p. 0)

  rest_mark : (p : ℕ) → p < 8 → mark rest.lanes p ≡ 0
  rest_mark = mark_anew (booked a o) (λ p. 0)

  -- in the next round they are the next ones
  on_price : (p : ℕ) → p < 8 → price onwards p ≡ price_next os rest p
  on_price p h = price_stays priced (mark_next os rest) p h ∙ price_anew rest (price_next os rest) (before_next rest) p h

  on_before : (p : ℕ) → p < 8 → before onwards p ≡ before_next rest p
  on_before p h = before_stays priced (mark_next os rest) p h ∙ before_anew rest (price_next os rest) (before_next rest) p h

  on_mark : (p : ℕ) → p < 8 → mark onwards p ≡ mark_next os rest p
  on_mark = mark_anew priced (mark_next os rest)

  settled_by : (P : Auction → Type 0) (x y : Bool)
      → (x ≡ true → P (with closed a.round rest.lanes))
      → (x ≡ false → y ≡ true → P (with stopped a.round rest.lanes))
      → (x ≡ false → y ≡ false → P (with bids_open (a.round + 1) onwards))
      → P (cond x rest (cond y (at_rest stopped a o) (onward os rest)))
  settled_by P true y f g h = f refl
  settled_by P false true f g h = g refl refl
  settled_by P false false f g h = h refl refl

  -- what holds of all three ends holds of the settled auction
  settled_each : (P : Auction → Type 0)
      → (excess rest ≡ 0 → P (with closed a.round rest.lanes))
      → (0 < excess rest → stops rest ≡ true → P (with stopped a.round rest.lanes))
      → (0 < excess rest → stops rest ≡ false → P (with bids_open (a.round + 1) onwards))
      → P (settled a os o)
  settled_each P f g h =
      settled_by P (eqb (excess rest) 0) (stops rest) (λ e. f (eqb-true _ _ e)) (λ e. g (some e)) (λ e. h (some e))
    where
      some : eqb (excess rest) 0 ≡ false → 0 < excess rest
      some e = let d = eqb-false (excess rest) 0 e in omega (arith, d)

  module _ (S : Stands a) (B : Booked a o) (O : overrides_fit os ≡ true) where
    -- the records, and their sums, are those of the book
    at : (b p : ℕ) → b < n → p < m → record_at rest.records (b * 8 + p) ≡ (place_at o.places (b * 8 + p)).holds
    at b p hb hp = list_at (λ k. (place_at o.places k).holds) nothing 256 (b * 8 + p) (omega (arith, S.limits.products, S.limits.bidders))

    held_is : (p : ℕ) → p < m → held rest.records n p ≡ column held_of o.places p n
    held_is p hp = sum_ext _ _ n (λ b hb. ap held_in (at b p hb hp))

    kept_is : (p : ℕ) → p < m → kept_on rest p ≡ column kept_of o.places p n
    kept_is p hp = sum_ext _ _ n (λ b hb. ap kept_in (at b p hb hp))

    row_is : (b : ℕ) → b < n → sum_up_to (λ p. held_in (record_of rest b p)) m ≡ row_of held_of o.places b m
    row_is b hb = sum_ext _ _ m (λ p hp. ap held_in (at b p hb hp))

    free_is : (b : ℕ) → b < 32 → free_of rest b ≡ (get_or o.free b (tranches 0)).0
    free_is b h = free_anew a (λ b. (get_or o.free b (tranches 0)).0) b h

    -- no cards are left
    slots_none : (ph rd : ℕ) (ls : List Lane) (b : ℕ) → b < 32 → slot_stands (with ph rd ls) b ≡ true
    slots_none ph rd ls b hb =
        rw (zero-div (2 ^ b)) (
        all_give (λ p. cond (ltb p 0) true (line_zero (on_product (slot_of (with ph rd ls) b) p))) 8 (λ p hp. by p hp (ltb p 0)))
      where
        by : (p : ℕ) → p < 8 → (s : Bool) → cond s true (line_zero (on_product (slot_of (with ph rd ls) b) p)) ≡ true
        by p hp true = refl
        by p hp false =
            ap line_zero (
            list_at (λ p. get_or (replicate 256 no_line) (b * 8 + p) no_line) no_line 8 p hp
            ∙ get_or-replicate 256 (b * 8 + p) no_line no_line (omega arith))

    -- past the bidders and products in use nothing is recorded
    bare : (k : ℕ) → k < 256 → (k / 8 < n → m ≤ k % 8) → NoRecord (record_at rest.records k)
    bare k hk out =
        let e : k ≡ k / 8 * 8 + k % 8 = omega arith in
        let N = subst (λ k. NoRecord (place_at o.places k).holds) (sym e) (B.bare (k / 8) (k % 8) (omega arith) (omega arith) out) in
        rw (list_at (λ k. (place_at o.places k).holds) nothing 256 k hk) N

    none_held : (p : ℕ) → m ≤ p → p < 8 → held rest.records n p ≡ 0
    none_held p h l =
        sum_ext (λ b. held_in (record_of rest b p)) (λ b. 0) n (λ b hb.
        let N = bare (b * 8 + p) (omega (arith, S.limits.bidders)) (λ _. omega arith) in
        omega (arith, N.going, N.denied, N.retained)) ∙ sum_zero n

    -- what the phase, round, prices and marks at the end have to meet
    record Meets (ph rd : ℕ) (ls : List Lane) : Type 0 where
      settings : setup (with ph rd ls) ≡ setup a
      some_round : 1 ≤ rd
      round : rd ≤ 4095
      within : (p : ℕ) → p < m → (1 ≤ price ls p) × (price ls p ≤ before ls p) × (before ls p ≤ start_of (setup a) p)
      fell : (p : ℕ) → p < m → eqb ph bids_open ≡ true → goal p < held rest.records n p → price ls p < before ls p
      same : (p : ℕ) → p < m → held rest.records n p ≡ goal p → (price ls p ≡ price_at a p) × (before ls p ≡ before_at a p)
      none : (p : ℕ) → m ≤ p → p < 8 → (price ls p ≡ 0) × (before ls p ≡ 0)
      marks : (p : ℕ) → p < m → 0 < mark ls p
          → (mark ls p ≡ 1) × (eqb ph bids_open ≡ true) × (2 ≤ rd) × (goal p < held rest.records n p)
      no_mark : (p : ℕ) → m ≤ p → p < 8 → mark ls p ≡ 0
      phase : phase_stands (with ph rd ls) ≡ true

    module _ (ph rd : ℕ) (ls : List Lane) (M : Meets ph rd ls) where
      -- the lots are those of the book, at prices that have not moved where something is retained
      exits_of : (b p : ℕ) → b < n → p < m → ExitsFit (price ls p) (before ls p) (record_of rest b p).retained
      exits_of b p hb hp = rw (at b p hb hp) (by (ltb 0 (retained_in (place_at o.places (b * 8 + p)).holds)) refl)
        where
          by : (s : Bool) → ltb 0 (retained_in (place_at o.places (b * 8 + p)).holds) ≡ s
              → ExitsFit (price ls p) (before ls p) (place_at o.places (b * 8 + p)).holds.retained
          by true e =
              let l = ltb-true 0 (retained_in (place_at o.places (b * 8 + p)).holds) e in
              let g = sum_ge (λ b. kept_of (place_at o.places (b * 8 + p))) n b hb in
              let k = B.kept p hp (omega arith) in
              let v = M.same p hp (held_is p hp ∙ k.1) in
              rw (v.0, v.1) (B.exits b p hb hp)
          by false e = rw (none_left _ (B.exits b p hb hp).order (ltb-false 0 _ e)) (none_exit _ _)

      target : (p : ℕ) → target_of (setup (with ph rd ls)) p ≡ goal p
      target p = ap (λ t. target_of t p) M.settings

      -- every clause of standing
      stands_with : Stands (with ph rd ls)
      stands_with = record {
        within = rw M.settings S.within;
        limits = rw M.settings S.limits;
        some_round = M.some_round;
        round = M.round;
        prices = λ p hp. let x = M.within p hp in (x.0, x.1, omega (arith, x, ap (λ t. start_of t p) M.settings));
        fell = λ p hp u l. M.fell p hp u (omega (arith, target p));
        kept = λ p hp h.
            let k = B.kept p hp (omega (arith, kept_is p hp)) in
            let v = M.same p hp (held_is p hp ∙ k.1) in
            (omega (arith, k, v), held_is p hp ∙ k.1 ∙ sym (target p));
        no_price = M.none;
        marks = λ p hp h. let x = M.marks p hp h in (x.0, x.1, x.2, omega (arith, x.3, target p));
        no_mark = M.no_mark;
        exits = exits_of;
        caps = λ b p hb hp. omega (arith, ap held_in (at b p hb hp), B.caps b p hb hp, ap (λ t. cap_of t p) M.settings);
        no_bidder = λ k hk h. zero_back _ (bare k hk (λ l. absurd (let z : ⊥ = omega arith in z)));
        no_product = λ k hk h. zero_back _ (bare k hk (λ l. h));
        eligible = λ b hb.
            omega (arith, row_is b hb, B.eligible b hb, S.eligible b hb, free_is b (omega (arith, S.limits.bidders)), ap (λ t. initial_of t b) M.settings);
        no_free = λ b h l. free_is b l ∙ B.no_free b h l;
        slots = slots_none ph rd ls;
        phase = M.phase;
      }

    -- closed or stopped: round and prices stay
    ends : (ph : ℕ) → eqb ph bids_open ≡ false → phase_stands (with ph a.round rest.lanes) ≡ true → Meets ph a.round rest.lanes
    ends ph e f = record {
      settings = rest_setup;
      some_round = S.some_round;
      round = S.round;
      within = λ p hp.
          let l : p < 8 = omega (arith, S.limits.products) in
          omega (arith, S.prices p hp, rest_price p l, rest_before p l);
      fell = λ p hp t. clash t e;
      same = λ p hp q. let l : p < 8 = omega (arith, S.limits.products) in (rest_price p l, rest_before p l);
      none = λ p h l. let x = S.no_price p h l in (rest_price p l ∙ x.0, rest_before p l ∙ x.1);
      marks = λ p hp h. absurd (let z : ⊥ = omega (arith, rest_mark p (omega (arith, S.limits.products))) in z);
      no_mark = λ p h l. rest_mark p l;
      phase = f;
    }

    -- open: the next round at the next prices
    onward_setup : setup (with bids_open (a.round + 1) onwards) ≡ setup a
    onward_setup = marks_setup priced (mark_next os rest) ∙ prices_setup rest (price_next os rest) (before_next rest) ∙ rest_setup

    -- what the price q falls to where g is the target
    abbrev cut : ℕ → ℕ → ℕ → ℕ
    cut p q g = fallen q (decrement_by (override_for os p) (decrement_for a.decrements (held rest.records n p - g) g))

    next_of : stops rest ≡ false → (p : ℕ) → p < m
        → Priced a (override_for os p) p (held rest.records n p) (price onwards p) (before onwards p) (mark onwards p)
    next_of e p hp =
        let l : p < 8 = omega (arith, S.limits.products) in
        let x = rest_price p l in
        let y = rest_before p l in
        let t = ap (λ t. target_of t p) rest_setup in
        let N = next rest (rw rest_setup S.limits) os O p hp (omega (arith, S.prices p hp)) e in
        rw (on_price p l, on_before p l, on_mark p l) (record {
          fell = λ l. let v = N.fell (omega arith) in (v.0, omega (arith, v), v.2 ∙ x);
          stayed = λ l. let v = N.stayed (omega arith) in (v.0 ∙ x, v.1 ∙ y);
          by = λ l. let v = N.by (omega arith) in (v.0 ∙ ap₂ (cut p) x t, v.1);
          unmarked = λ l. N.unmarked (omega arith);
        })

    goes_on_lem : 0 < excess rest → stops rest ≡ false → Meets bids_open (a.round + 1) onwards
    goes_on_lem h e =
        let r = eqb-false a.round 4095 (cond_false (at_bottom rest) _ e).1 in record {
          settings = onward_setup;
          some_round = omega arith;
          round = omega (arith, r, S.round);
          within = λ p hp. within_by p hp (ltb (goal p) (held rest.records n p)) refl;
          fell = λ p hp t l. let x = (next_of e p hp).fell l in omega (arith, x);
          same = λ p hp q. (next_of e p hp).stayed (omega arith);
          none = λ p h l.
              let z = S.no_price p h l in
              let y = next_none rest (rw rest_setup S.limits) os p (rest_price p l ∙ z.0) (rest_before p l ∙ z.1) in
              (on_price p l ∙ y.0, on_before p l ∙ y.1);
          marks = λ p hp h. marks_by p hp h (ltb (goal p) (held rest.records n p)) refl;
          no_mark = λ p h l. on_mark p l ∙ mark_low rest os p (omega (arith, none_held p h l));
          phase = later_open (with bids_open (a.round + 1) onwards) (λ q. omega (arith, S.some_round))
              (omega (arith, excess_same rest (with bids_open (a.round + 1) onwards) (onward_setup ∙ sym rest_setup) refl refl))
              (λ q p hp. kept_is p hp ∙ B.first (omega arith) p hp);
        }
      where
        one_at_most : (t : Bool) → 0 < one_if t → one_if t ≡ 1
        one_at_most true h = refl
        one_at_most false h = absurd (let z : ⊥ = omega arith in z)

        marks_by : (p : ℕ) → p < m → 0 < mark onwards p → (s : Bool) → ltb (goal p) (held rest.records n p) ≡ s
            → (mark onwards p ≡ 1) × (eqb bids_open bids_open ≡ true) × (2 ≤ a.round + 1) × (goal p < held rest.records n p)
        marks_by p hp h true f =
            let l = ltb-true _ _ f in
            let x = ((next_of e p hp).by l).1 in
            (x ∙ one_at_most (is_given (override_for os p)) (omega arith), refl, omega (arith, S.some_round), l)
        marks_by p hp h false f = absurd (let z : ⊥ = omega (arith, (next_of e p hp).unmarked (ltb-false _ _ f)) in z)

        within_by : (p : ℕ) → p < m → (s : Bool) → ltb (goal p) (held rest.records n p) ≡ s
            → (1 ≤ price onwards p) × (price onwards p ≤ before onwards p) × (before onwards p ≤ start_of (setup a) p)
        within_by p hp true f =
            let x = (next_of e p hp).fell (ltb-true _ _ f) in
            let y = S.prices p hp in
            (omega (arith, x), omega (arith, x), omega (arith, x, y))
        within_by p hp false f =
            let x = (next_of e p hp).stayed (ltb-false _ _ f) in
            let y = S.prices p hp in
            (omega (arith, x, y), omega (arith, x, y), omega (arith, x, y))

    -- what stood stands
    pub settled_stands : Stands (settled a os o)
    settled_stands =
        settled_each Stands
        (λ e. stands_with closed _ _ (ends closed refl (eq-eqb _ _ e)))
        (λ h t. stands_with stopped _ _ (ends stopped refl (both (lt-ltb 0 (excess rest) h) t)))
        (λ h e. stands_with bids_open _ _ (goes_on_lem h e))

    -- the lists keep their lengths
    pub settled_long : Long a → Long (settled a os o)
    settled_long L =
        settled_each Long (λ e. long _ _ _ (list_long _ 8)) (λ h t. long _ _ _ (list_long _ 8)) (λ h e. long _ _ _ (list_long _ 8))
      where
        long : (ph rd : ℕ) (ls : List Lane) → length ls ≡ 8 → Long (with ph rd ls)
        long ph rd ls l =
            record { lanes = l; seats = list_long _ 32; row = L.row; records = list_long _ 256; lines = length-replicate 256 no_line }

    -- the prices after
    pub settled_prices : (p : ℕ) → p < a.terms.products → PriceAfter a (settled a os o) p
    settled_prices p hp =
        settled_each (λ z. PriceAfter a z p) (λ e. rested closed refl) (λ h t. rested stopped refl)
        (λ h e. open_by (next_of e p hp) (ltb (goal p) (held rest.records n p)) refl)
      where
        l : p < 8
        l = omega (arith, S.limits.products)

        rested : (ph : ℕ) → eqb ph bids_open ≡ false → PriceAfter a (with ph a.round rest.lanes) p
        rested ph e =
            let x = rest_price p l in
            let y = rest_before p l in record {
              some = omega (arith, S.prices p hp);
              no_rise = omega arith;
              fell = λ t. clash t e;
              stayed = λ t h. (x, y);
              ended = λ t. (x, y);
            }

        open_by : Priced a (override_for os p) p (held rest.records n p) (price onwards p) (before onwards p) (mark onwards p)
            → (s : Bool) → ltb (goal p) (held rest.records n p) ≡ s → PriceAfter a (with bids_open (a.round + 1) onwards) p
        open_by N true f =
            let x = N.fell (ltb-true _ _ f) in record {
              some = x.0;
              no_rise = omega (arith, x);
              fell = λ t h. (x.1, x.2);
              stayed = λ t h. N.stayed h;
              ended = λ t. clash refl t;
            }
        open_by N false f =
            let x = N.stayed (ltb-false _ _ f) in
            let y = S.prices p hp in record {
              some = omega (arith, x, y);
              no_rise = omega (arith, x);
              fell = λ t h. let z = N.fell h in (z.1, z.2);
              stayed = λ t h. x;
              ended = λ t. clash refl t;
            }

    -- whose decrement they are worked out by
    pub settled_by_whom : (p : ℕ) → p < a.terms.products → PriceBy a (settled a os o) (override_for os p) p
    settled_by_whom p hp =
        settled_each (λ z. PriceBy a z (override_for os p) p) (λ e. rested closed refl) (λ h t. rested stopped refl) (λ h e.
        let N = next_of e p hp in
        record { fell = λ t. N.by; stayed = λ t. N.unmarked; ended = λ t. clash refl t })
      where
        rested : (ph : ℕ) → eqb ph bids_open ≡ false → PriceBy a (with ph a.round rest.lanes) (override_for os p) p
        rested ph e =
            record { fell = λ t. clash t e; stayed = λ t. clash t e; ended = λ t. rest_mark p (omega (arith, S.limits.products)) }

    -- closed, there is no excess: nothing above target, and no f
    pub settled_closes : (settled a os o).phase ≡ closed → Closes a (settled a os o)
    settled_closes =
        settled_each (λ z. z.phase ≡ closed → Closes a z) (λ e c. closes e)
        (λ h t c. absurd (let z : ⊥ = omega arith in z)) (λ h e c. absurd (let z : ⊥ = omega arith in z))
      where
        low : excess rest ≡ 0 → (p : ℕ) → p < m → held rest.records n p ≤ goal p
        low e p hp =
            let x = sum_ge (λ p. above_zero (standing_of rest p)) m p hp in
            omega (arith, above_zero_lem (held rest.records n p) (target_of (setup rest) p), ap (λ t. target_of t p) rest_setup)

        closes : excess rest ≡ 0 → Closes a (with closed a.round rest.lanes)
        closes e = record {
          within = low e;
          filled = λ p hp h. omega (arith, low e p hp, held_is p hp, B.filled p (goal p) hp (omega arith) h);
          asked = λ b hb.
              let x = sum_ge (free_of rest) n b hb in
              let f = free_is b (omega (arith, S.limits.bidders)) in
              let y = sum_add (λ p. bid_in (bid_on a b p)) (λ p. denied_in (record_of a b p)) m in
              let z = sum_le (λ p. worth_of (place_at o.places (b * 8 + p))) (λ p. held_of (place_at o.places (b * 8 + p))) m
              (λ p hp. omega arith) in
              omega (arith, B.worth b hb, row_is b hb);
        }

    -- what is the same in all three ends
    pub settled_setup : setup (settled a os o) ≡ setup a
    settled_setup = settled_each (λ z. setup z ≡ setup a) (λ e. rest_setup) (λ h t. rest_setup) (λ h e. onward_setup)

    pub settled_record : (b p : ℕ) → b < a.terms.bidders → p < a.terms.products
        → record_of (settled a os o) b p ≡ (place_at o.places (b * 8 + p)).holds
    settled_record b p hb hp =
        let e = at b p hb hp in
        settled_each (λ z. record_of z b p ≡ (place_at o.places (b * 8 + p)).holds) (λ _. e) (λ _ _. e) (λ _ _. e)

    pub settled_free : (b : ℕ) → b < 32 → free_of (settled a os o) b ≡ (get_or o.free b (tranches 0)).0
    settled_free b h =
        let e = free_is b h in
        settled_each (λ z. free_of z b ≡ (get_or o.free b (tranches 0)).0) (λ _. e) (λ _ _. e) (λ _ _. e)

    -- "and the next round opens", where the auction does not end
    pub settled_round : (settled a os o).round ≡ cond (is_open (settled a os o)) (a.round + 1) a.round
    settled_round = settled_each (λ z. z.round ≡ cond (is_open z) (a.round + 1) a.round) (λ _. refl) (λ _ _. refl) (λ _ _. refl)

    pub settled_held : (p : ℕ) → p < a.terms.products
        → held (settled a os o).records a.terms.bidders p ≡ column held_of o.places p a.terms.bidders
    settled_held p hp =
        let e = held_is p hp in
        settled_each (λ z. held z.records n p ≡ column held_of o.places p n) (λ _. e) (λ _ _. e) (λ _ _. e)

    pub settled_kept : (p : ℕ) → p < a.terms.products
        → kept_on (settled a os o) p ≡ column kept_of o.places p a.terms.bidders
    settled_kept p hp =
        let e = kept_is p hp in
        settled_each (λ z. kept_on z p ≡ column kept_of o.places p n) (λ _. e) (λ _ _. e) (λ _ _. e)

    -- a bidder's eligibility is what it bid and had denied
    pub settled_eligibility : (b : ℕ) → b < a.terms.bidders
        → eligibility (settled a os o) b ≡ sum_up_to (λ p. bid_in (bid_on a b p) + denied_in (record_of a b p)) a.terms.products
    settled_eligibility b hb =
        let x = sum_ext (λ p. going_in (record_of rest b p) + denied_in (record_of rest b p)) (λ p. worth_of (place_at o.places (b * 8 + p))) m
        (λ p hp. ap (λ r. going_in r + denied_in r) (at b p hb hp)) in
        let f = free_is b (omega (arith, S.limits.bidders)) in
        let e : eligibility rest b ≡ sum_up_to (λ p. bid_in (bid_on a b p) + denied_in (record_of a b p)) m = omega (arith, B.worth b hb) in
        settled_each (λ z. eligibility z b ≡ sum_up_to (λ p. bid_in (bid_on a b p) + denied_in (record_of a b p)) m) (λ _. e) (λ _ _. e) (λ _ _. e)
