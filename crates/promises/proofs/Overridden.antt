-- Document 02, request 1: a mark says exactly that the last working-out of the price used the manager's decrement; with none given the call is
-- the earlier one. Assumes nothing.
use mathlib.Core.Path.{◌≡◌, refl, sym, ◌∙◌, ap, ap₂}
use mathlib.Core.Bool.{Bool, true, false, ◌&&◌, cond}
use mathlib.Core.List.{List, [], ◌∷◌}
use Prim.Native.Nat.{ℕ, zero, suc, ◌+◌, ◌-◌, ◌≤◌, ◌<◌}
use native.Mathlib.Omega.{arith}
use borrow.Author.Tests.{eqb-true, eqb-false, ltb-true, ltb-false}
use lib.ListN.{length, get_or}
use lib.Dec.{eqb, ltb}
use Rattle.std.specs.Prelude.{Option, None, Some, is_some, Err}
use Rattle.rules.specs.declared.Tranches.{Tranches}
use Rattle.rules.specs.declared.BasisPoints.{BasisPoints}
use Rattle.rules.specs.declared.Settings.{Settings}
use Rattle.rules.specs.declared.Outbid.{Outbid}
use Rattle.rules.specs.declared.Auction.{Auction}
use Rattle.rules.specs.Count.{never, first_up_to, better}
use Rattle.rules.specs.Units.{going_price}
use Rattle.rules.specs.Answers.{outcome, bids_open, closed, stopped, refusal_of}
use Rattle.rules.specs.Parts.{no_lane, lane_at, priced, marked, auction, with_prices, unmarked}
use Rattle.rules.specs.Settings.{setup, terms_of, setup_of, target_of}
use Rattle.rules.specs.Held.{held, standing, standing_of, above, ticked, excess}
use Rattle.rules.specs.Bid.{one_if, price_at, mark_at}
use Rattle.rules.specs.Price.{Override, decrement_for, fallen, is_given, override_fits, decrement_by}
use Rattle.rules.specs.Round.{override_for, overrides_fit, after_step2, after_step4, at_rest, price_next, mark_next, before_next, onward, stops, settled, calculated}
use Rattle.rules.specs.Report.{going_on, report_on}
use Rattle.rules.specs.Layout.{state_length, loaded, all_zero}
use Rattle.rules.specs.Legal.{is_open, stands}
use Rattle.rules.specs.Calls.{open_number, file_number, file_call, with_card, calculate_number, calculation_done, calculate_call, plain_number, plain_call, cutback_number, cutback_call, report_number, report_call}
use Rattle.rules.specs.Uses.{Call, opens, files, counts, calculates, calculates_plain, cuts, reports, results, reads, writes, suggests, after}
use Rattle.rules.proofs.Sums.{and_left, and_right}
use Rattle.rules.proofs.Lists.{clash, all_give, list_at, list_ext}
use Rattle.rules.proofs.Signed.{above_is}
use Rattle.rules.proofs.Legal.{stands_take}
use Rattle.rules.proofs.Parts.{excess_same, price_stays, before_stays, marks_setup, marked_at}
use Rattle.laws.specs.OneCall.{StandsIn, PriceBy}
use Rattle.laws.proofs.Calling.{granted}
use Rattle.laws.proofs.Opening.{opened_unmarked}
use Rattle.laws.proofs.Prices.{mark_none}
use Rattle.laws.proofs.OneCall.{stood, open_stands_lem, open_loaded, open_standing, file_loaded, file_refused, calculate_refused, plain_refused, calculate_by_whom, cutback_only, cutback_refused}
use Rattle.laws.proofs.Plain.{plain_accepts, plain_call_lem}
use Rattle.promises.specs.Runs.{run, opened_by}
use Rattle.promises.specs.Marks.{uses_managers, managers_after, managers_from, by_managers, reported_mark}
use Rattle.promises.specs.Earlier.{price_by_table, rested_earlier, onward_earlier, settled_earlier, calculated_earlier, number_earlier, call_earlier}
use Rattle.promises.proofs.Steps.{after_stands, run_later, run_keeps, opened_stands, in_use}
use Rattle.promises.proofs.Falling.{price_falls}

-- ---- one calculation

module _ (s : List ℕ) (S : StandsIn s) (draw : List ℕ) (os : List Override) (n : calculate_number s draw os ≡ 0)
    (p : ℕ) (h : p < (loaded s).terms.products) where
  abbrev a : Auction
  a = loaded s

  abbrev z : Auction
  z = loaded (calculate_call s draw os).bytes

  by : PriceBy a z (override_for os p) p
  by = calculate_by_whom s S draw os n p h

  -- a product is above target by the settings, which stay
  ticked_is : ticked z p ≡ ltb (target_of (setup a) p) (held z.records a.terms.bidders p)
  ticked_is =
      ap (λ t. above (standing (held z.records t.terms.bidders p) (target_of t p))) (run_later s S (calculates draw os ∷ []) refl).settings
      ∙ above_is (held z.records a.terms.bidders p) (target_of (setup a) p)

  one_is : (t : Bool) → ltb 0 (one_if t) ≡ t
  one_is true = refl
  one_is false = refl

  marked_now : (t u : Bool) → is_open z ≡ t → ltb (target_of (setup a) p) (held z.records a.terms.bidders p) ≡ u
      → ltb 0 (mark_at z p) ≡ (t && (u && is_given (override_for os p)))
  marked_now true true e f = ap (ltb 0) (by.fell e (ltb-true _ _ f)).1 ∙ one_is (is_given (override_for os p))
  marked_now true false e f = ap (ltb 0) (by.stayed e (ltb-false _ _ f))
  marked_now false u e f = ap (ltb 0) (by.ended e)

  -- it marks a product where, and only where, it uses the manager's decrement
  pub calculate_marks : ltb 0 (mark_at (loaded (calculate_call s draw os).bytes) p)
      ≡ uses_managers (loaded (calculate_call s draw os).bytes) (override_for os p) p
  calculate_marks =
      marked_now (is_open z) (ltb (target_of (setup a) p) (held z.records a.terms.bidders p)) refl refl
      ∙ ap (λ u. is_open z && (u && is_given (override_for os p))) (sym ticked_is)

  -- and there the price is that of the decrement given, below the price before
  pub managers_price : uses_managers (loaded (calculate_call s draw os).bytes) (override_for os p) p ≡ true
      → (x : BasisPoints) × (override_for os p ≡ Some x)
      × (price_at (loaded (calculate_call s draw os).bytes) p ≡ fallen (price_at (loaded s) p) x.0)
      × (price_at (loaded (calculate_call s draw os).bytes) p < price_at (loaded s) p)
  managers_price u =
      let e = and_left (is_open z) _ u in
      let v = and_right (is_open z) _ u in
      let l = ltb-true _ _ (sym ticked_is ∙ and_left (ticked z p) _ v) in
      of (override_for os p) refl (and_right (ticked z p) _ v) (by.fell e l).0 ((price_falls s S draw os n p h e).1 l)
    where
      of : (o : Override) → override_for os p ≡ o → is_given o ≡ true
          → price_at z p ≡ fallen (price_at a p) (decrement_by o (decrement_for a.decrements (held z.records a.terms.bidders p - target_of (setup a) p) (target_of (setup a) p)))
          → price_at z p < price_at a p
          → (x : BasisPoints) × (override_for os p ≡ Some x) × (price_at z p ≡ fallen (price_at a p) x.0) × (price_at z p < price_at a p)
      of None e g f d = clash g refl
      of (Some x) e g f d = (x, e, f, d)

-- ---- one call

module _ (s : List ℕ) (S : StandsIn s) (p : ℕ) (h : p < (loaded s).terms.products) where
  abbrev is_marked : List ℕ → Bool
  is_marked s = ltb 0 (mark_at (loaded s) p)

  file_marked : (c : List ℕ) (t : Bool) → eqb (file_number s c) 0 ≡ t → is_marked (file_call s c).bytes ≡ is_marked s
  unfolding with_card
  file_marked c true e = ap (λ a. ltb 0 (mark_at a p)) (file_loaded s S c (eqb-true (file_number s c) 0 e))
  file_marked c false e = ap is_marked (file_refused s c (eqb-false (file_number s c) 0 e))

  calculate_marked : (draw : List ℕ) (os : List Override) (t : Bool) → eqb (calculate_number s draw os) 0 ≡ t
      → is_marked (calculate_call s draw os).bytes
      ≡ cond t (uses_managers (loaded (calculate_call s draw os).bytes) (override_for os p) p) (is_marked s)
  calculate_marked draw os true e = calculate_marks s S draw os (eqb-true (calculate_number s draw os) 0 e) p h
  calculate_marked draw os false e = ap is_marked (calculate_refused s draw os (eqb-false (calculate_number s draw os) 0 e))

  plain_marked : (draw : List ℕ) (os : List Override) (order : List ℕ) (t : Bool) → eqb (plain_number s draw os order) 0 ≡ t
      → is_marked (plain_call s draw os order).bytes
      ≡ cond t (uses_managers (loaded (plain_call s draw os order).bytes) (override_for os p) p) (is_marked s)
  plain_marked draw os order true e =
      let q = plain_accepts s draw os order (eqb-true (plain_number s draw os order) 0 e) in
      rw (plain_call_lem s draw os order q.1) (calculate_marks s S draw os q.0 p h)
  plain_marked draw os order false e = ap is_marked (plain_refused s draw os order (eqb-false (plain_number s draw os order) 0 e))

  cutback_marked : (targets caps : List Tranches) (t : Bool) → eqb (cutback_number s targets caps) 0 ≡ t
      → is_marked (cutback_call s targets caps).bytes ≡ cond t false (is_marked s)
  cutback_marked targets caps true e =
      ap (ltb 0) ((cutback_only s S targets caps (eqb-true (cutback_number s targets caps) 0 e)).marks p (omega (arith, (stood s S).limits.products)))
  cutback_marked targets caps false e = ap is_marked (cutback_refused s targets caps (eqb-false (cutback_number s targets caps) 0 e))

  after_marked : (c : Call) → is_marked (after s c) ≡ managers_after s c p (is_marked s)
  after_marked (opens x) = ap is_marked (open_standing s x S).1
  after_marked (files c) = file_marked c (eqb (file_number s c) 0) refl
  after_marked counts = refl
  after_marked (calculates draw os) = calculate_marked draw os (eqb (calculate_number s draw os) 0) refl
  after_marked (calculates_plain draw os order) = plain_marked draw os order (eqb (plain_number s draw os order) 0) refl
  after_marked (cuts targets caps) = cutback_marked targets caps (eqb (cutback_number s targets caps) 0) refl
  after_marked (reports b) = refl
  after_marked results = refl
  after_marked (reads c n) = refl
  after_marked (writes room n b r ls) = refl
  after_marked (suggests bid ratio) = refl

-- ---- a run of calls

-- from any standing state
pub run_marked : (s : List ℕ) → StandsIn s → (cs : List Call) (p : ℕ) → p < (loaded s).terms.products
    → ltb 0 (mark_at (loaded (run s cs)) p) ≡ managers_from s cs p (ltb 0 (mark_at (loaded s) p))
run_marked s S [] p h = refl
run_marked s S (c ∷ cs) p h =
    let m = ap (λ t. t.products) (run_keeps s S (c ∷ [])).terms in
    run_marked (after s c) (after_stands s S c) cs p (omega arith) ∙ ap (managers_from (after s c) cs p) (after_marked s S p h c)

-- a report that is given says it of each product
report_marks : (s : List ℕ) (b : ℕ) → report_number s b ≡ 0 → (p : ℕ) → p < 8 → reported_mark s b p ≡ ltb 0 (mark_at (loaded s) p)
unfolding report_call report_on
report_marks s b n p h =
    let e : report_call s b ≡ report_on (loaded s) b = rw n in
    ap (λ r. (get_or r.prices p (going_price 0 0 false)).overridden) e
    ∙ ap (λ g. g.overridden) (list_at (going_on (loaded s)) (going_price 0 0 false) 8 p h)

module _ (s : List ℕ) (x : Settings) (new : open_number s x ≡ 0) (e : length x.eligibility ≡ 32) (r : length x.row ≡ 8)
    (cs : List Call) (p : ℕ) (h : p < (terms_of x).products) where
  -- from an opening: a product is marked exactly where the last working-out of its price used the manager's decrement
  pub marked_by : ltb 0 (mark_at (loaded (run (opened_by s x) cs)) p) ≡ by_managers (opened_by s x) cs p
  marked_by =
      let I = open_stands_lem s x new e r in
      let i = in_use s x new e r [] p h in
      let m = ap (λ a. mark_at a p) (open_loaded s x new e r) ∙ opened_unmarked (setup_of x) p (omega (arith, (stood (opened_by s x) I).limits.products)) in
      run_marked (opened_by s x) I cs p i ∙ ap (λ n. managers_from (opened_by s x) cs p (ltb 0 n)) m

  -- and so every report says
  pub reported_by : (b : ℕ) → report_number (run (opened_by s x) cs) b ≡ 0
      → reported_mark (run (opened_by s x) cs) b p ≡ by_managers (opened_by s x) cs p
  reported_by b n =
      let i = in_use s x new e r cs p h in
      report_marks (run (opened_by s x) cs) b n p (omega (arith, (stood _ (opened_stands s x new e r cs)).limits.products)) ∙ marked_by

-- ---- none given: the earlier definition

first_ext : (f g : ℕ → Bool) (n : ℕ) → ((i : ℕ) → i < n → f i ≡ g i) → first_up_to f n ≡ first_up_to g n
first_ext f g zero h = refl
first_ext f g (suc n) h = by (first_up_to g n) (first_ext f g n (λ i l. h i (omega arith)))
  where
    by : (q : Option ℕ) → first_up_to f n ≡ q → better f never (first_up_to f n) n ≡ better g never q n
    by None e = rw (e, h n (omega arith)) refl
    by (Some i) e = rw (e, h n (omega arith)) refl

module _ (os : List Override) (none : (p : ℕ) → p < 8 → override_for os p ≡ None) where
  none_fit : overrides_fit os ≡ true
  none_fit = all_give (λ p. override_fits (override_for os p)) 8 (λ p h. ap override_fits (none p h))

  module _ (a : Auction) (few : a.terms.products ≤ 8) (o : Outbid) where
    -- at rest, with the marks dropped and as they were
    abbrev rest : Auction
    rest = at_rest closed a o

    abbrev rested : Auction
    rested = rested_earlier closed a o

    rest_setup : setup rest ≡ setup rested
    rest_setup = marks_setup rested (λ p. 0)

    standing_same : (p : ℕ) → standing_of rest p ≡ standing_of rested p
    standing_same p = ap (λ t. standing (held rested.records t.terms.bidders p) (target_of t p)) rest_setup

    price_same : (p : ℕ) → p < 8 → price_at rest p ≡ price_at rested p
    price_same = price_stays rested (λ p. 0)

    stops_same : stops rest ≡ stops rested
    stops_same =
        ap (λ q. cond (is_some q) true (eqb a.round 4095))
        (first_ext (λ p. above (standing_of rest p) && eqb (price_at rest p) 1) (λ p. above (standing_of rested p) && eqb (price_at rested p) 1)
        a.terms.products (λ p h. ap₂ (λ z x. above z && eqb x 1) (standing_same p) (price_same p (omega arith))))

    -- the next prices are the table's
    next_same : (p : ℕ) → p < 8 → price_next os rest p ≡ price_by_table rested p
    next_same p h = rw (none p h, standing_same p, price_same p h, ap (λ t. target_of t p) rest_setup) refl

    before_same : (p : ℕ) → p < 8 → before_next rest p ≡ before_next rested p
    before_same p h = rw (standing_same p, price_same p h, before_stays rested (λ p. 0) p h) refl

    lane_same : (p : ℕ) → p < 8
        → marked (lane_at (with_prices rest (price_next os rest) (before_next rest)) p) (mark_next os rest p)
        ≡ marked (lane_at (with_prices rested (price_by_table rested) (before_next rested)) p) 0
    lane_same p h =
        let x = list_at (λ p. priced (lane_at rest p) (price_next os rest p) (before_next rest p)) no_lane 8 p h in
        let y = list_at (λ p. priced (lane_at rested p) (price_by_table rested p) (before_next rested p)) no_lane 8 p h in
        ap₂ marked (x ∙ ap₂ (priced (lane_at rest p)) (next_same p h) (before_same p h)) (mark_none rest os p (none p h))
        ∙ ap (λ l. marked (priced l (price_by_table rested p) (before_next rested p)) 0) (marked_at rested (λ p. 0) p h)
        ∙ sym (ap (λ l. marked l 0) y)

    onward_same : onward os rest ≡ unmarked (onward_earlier rested)
    onward_same =
        ap (λ ls. auction bids_open (a.round + 1) a.terms ls rested.seats a.decrements rested.records rested.cards)
        (list_ext _ _ 8 lane_same)

    settled_same : settled a os o ≡ unmarked (settled_earlier a o)
    settled_same =
        rw (excess_same rested rest rest_setup refl refl, stops_same) (by (eqb (excess rested) 0) (stops rested))
      where
        by : (t u : Bool)
            → cond t rest (cond u (at_rest stopped a o) (onward os rest))
            ≡ unmarked (cond t rested (cond u (rested_earlier stopped a o) (onward_earlier rested)))
        by true u = refl
        by false true = refl
        by false false = onward_same

  round_same : (a : Auction) (draw : List ℕ) → a.terms.products ≤ 8 → calculated a draw os ≡ calculated_earlier a draw
  unfolding calculated
  round_same a draw few =
      let k = after_step2 a draw in
      let o = after_step4 a draw k.places in
      ap (λ z. record { auction = z; kept = k.count; outbid = o.count }) (settled_same a few o)

  number_same : (s draw : List ℕ) → calculate_number s draw os ≡ number_earlier s draw
  number_same s draw = rw none_fit refl

-- an accepted call is of a standing state
few_products : (s draw : List ℕ) → number_earlier s draw ≡ 0 → (loaded s).terms.products ≤ 8
few_products s draw e = by (all_zero s) _ (granted (eqb (length s) state_length) _ 1 (omega arith) e).1
  where
    by : (t : Bool) (x : ℕ) → ◌≡◌ {A = ℕ} (cond t 3 (cond (stands (loaded s)) x 2)) 0 → (loaded s).terms.products ≤ 8
    by true x f = absurd (let z : ⊥ = omega arith in z)
    by false x f = (stands_take (loaded s) (granted (stands (loaded s)) x 2 (omega arith) f).0).limits.products

-- with none given the call equals the earlier one, which leaves no mark: of any bytes
pub none_given : (s draw : List ℕ) (os : List Override) → ((p : ℕ) → p < 8 → override_for os p ≡ None)
    → calculate_call s draw os ≡ call_earlier s draw
unfolding calculate_call
none_given s draw os none = rw (number_same os none s draw) (by (eqb (number_earlier s draw) 0) refl)
  where
    by : (t : Bool) → eqb (number_earlier s draw) 0 ≡ t
        → cond t (calculation_done (calculated (loaded s) draw os)) (outcome (Err (refusal_of (number_earlier s draw))) s)
        ≡ cond t (calculation_done (calculated_earlier (loaded s) draw)) (outcome (Err (refusal_of (number_earlier s draw))) s)
    by true e = ap calculation_done (round_same os none (loaded s) draw (few_products s draw (eqb-true (number_earlier s draw) 0 e)))
    by false e = refl
