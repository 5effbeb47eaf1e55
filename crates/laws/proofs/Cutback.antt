-- A cutback leaves a standing state standing, and moves what a reduced cap takes off into free eligibility. Assumes nothing.
use mathlib.Core.Path.{◌≡◌, refl, sym, ◌∙◌, ap}
use mathlib.Core.Bool.{Bool, true, false, cond}
use mathlib.Core.Logic.{◌⊎◌, inl, inr}
use mathlib.Core.List.{List, []}
use Prim.Native.Nat.{ℕ, ◌+◌, ◌*◌, ◌-◌, ◌%◌, ◌^◌, ◌≤◌, ◌<◌, min}
use native.Mathlib.Omega.{arith}
use native.Mathlib.Nat.{zero-div}
use borrow.Author.Tests.{eqb-false, ne_eqb, ltb-true, ltb-false, lt-ltb}
use lib.ListN.{length, get_or}
use lib.Dec.{eqb, ltb}
use Rattle.std.specs.Prelude.{None}
use Rattle.rules.specs.declared.Tranches.{Tranches}
use Rattle.rules.specs.declared.Record.{Record}
use Rattle.rules.specs.declared.Lane.{Lane}
use Rattle.rules.specs.declared.Setup.{Setup}
use Rattle.rules.specs.declared.Auction.{Auction}
use Rattle.rules.specs.Count.{sum_up_to}
use Rattle.rules.specs.Answers.{bids_open, stopped}
use Rattle.rules.specs.Parts.{no_lane, with_phase, with_lanes, with_prices, with_marks}
use Rattle.rules.specs.Settings.{setup, within_limits, item_within, target_of, cap_of, start_of, initial_of}
use Rattle.rules.specs.Lots.{total, lots_zero}
use Rattle.rules.specs.Held.{going_in, denied_in, held_in, kept_in, record_at, set_to, held, above_zero, standing_of, free_of, excess}
use Rattle.rules.specs.Bid.{record_of, price_at, has_filed}
use Rattle.rules.specs.Round.{overrides_fit, price_next, mark_next, before_next, opens_at, stops}
use Rattle.rules.specs.Cutback.{given_for, may_cut, revised, cut_from, reduced, cut_back}
use Rattle.rules.specs.Legal.{is_open, record_zero, phase_stands}
use Rattle.rules.specs.Stands.{Limits, Long, Stands}
use Rattle.laws.specs.OneCall.{CutOnly, CutPrice}
use Rattle.rules.proofs.Sums.{sum_ext, sum_le, sum_six, sum_ge, sum_add, sum_swap, sum_zero}
use Rattle.rules.proofs.Lists.{clash, both, all_give, list_long}
use Rattle.rules.proofs.LotLaws.{none_left, none_exit}
use Rattle.rules.proofs.Signed.{above_zero_lem}
use Rattle.rules.proofs.Tests.{told, shown}
use Rattle.rules.proofs.Legal.{limits_take, second_none, later_excess, later_open}
use Rattle.laws.proofs.Prices.{Priced, next, next_none, mark_none}
use Rattle.rules.proofs.Parts.{excess_same, price_anew, before_anew, prices_setup, mark_anew, price_stays, before_stays, marks_setup}
use Rattle.rules.proofs.Reduced.{revised_target, revised_cap, revised_start, record_is, record_of_lem, free_is, price_is, before_is, mark_is, reduced_setup, fit, cut_numbers, cut_past}

module _ (a : Auction) (targets caps : List Tranches) where
  abbrev m : ℕ
  m = a.terms.products

  abbrev n : ℕ
  n = a.terms.bidders

  abbrev t : Setup
  t = revised (setup a) targets caps

  abbrev z : Auction
  z = reduced a targets caps

  target_z : (p : ℕ) → target_of (setup z) p ≡ target_of t p
  target_z p = ap (λ u. target_of u p) (reduced_setup a targets caps)

  module _ (L : Limits (setup a)) where
    -- what is held of a product, with what was cut there, is what was held
    held_cut : (p : ℕ) → p < m
        → held z.records n p + sum_up_to (λ b. going_in (record_of a b p) - given_for caps p) n ≡ held a.records n p
    held_cut p hp =
        let s = sum_six (λ b. held_in (record_of z b p)) (λ b. going_in (record_of a b p) - given_for caps p) (λ b. 0)
        (λ b. held_in (record_of a b p)) (λ b. 0) (λ b. 0) n
        (λ b hb. omega (arith, ap held_in (record_of_lem a targets caps b p (omega (arith, L.bidders)) (omega (arith, L.products))))) in
        omega (arith, sum_zero n)

    -- what a bidder holds, with what was cut, is what it held; so with g alone, and with g and d
    module _ (f : Record → ℕ) (x : (r : Record) (c : ℕ) → f (set_to r c) + (going_in r - c) ≡ f r) where
      row_cut : (b : ℕ) → b < n
          → sum_up_to (λ p. f (record_of z b p)) m + free_of z b ≡ sum_up_to (λ p. f (record_of a b p)) m + free_of a b
      row_cut b hb =
          let s = sum_six (λ p. f (record_of z b p)) (λ p. going_in (record_of a b p) - given_for caps p) (λ p. 0)
          (λ p. f (record_of a b p)) (λ p. 0) (λ p. 0) m
          (λ p hp. let e = ap f (record_of_lem a targets caps b p (omega (arith, L.bidders)) (omega (arith, L.products))) in
          omega (arith, x (record_of a b p) (given_for caps p))) in
          omega (arith, sum_zero m, free_is a targets caps b (omega (arith, L.bidders)))

  -- ---- a cutback that may be made

  module _ (S : Stands a) (op : is_open a ≡ true) (may : may_cut a targets caps ≡ true) where
    L : Limits (setup a)
    L = S.limits

    hm : m ≤ 8
    hm = L.products

    hn : n ≤ 32
    hn = L.bidders

    pub cut_second : a.round ≡ 2
    cut_second = search told

    pub cut_unfiled : a.cards.filed ≡ 0
    cut_unfiled = search told

    cut_ranked : (p : ℕ) → 0 < p → p < m → given_for targets p ≤ given_for targets (p - 1)
    cut_ranked p g h = let x = rw (lt-ltb p m h, ne_eqb p 0 (λ z. omega arith)) at (fit a targets caps S may p (omega (arith, hm))) in search told

    -- "settings within limits": the revised numbers in the place of the settings' own
    item_by : (p : ℕ) → p < 8 → (s u : Bool) → ltb p m ≡ s → eqb p 0 ≡ u → item_within t p ≡ true
    unfolding revised
    item_by p l true true e f =
        let h = ltb-true p m e in
        let x = revised_target (setup a) targets caps p l in
        let y = revised_cap (setup a) targets caps p l in
        let w = revised_start (setup a) targets caps p l in
        let c = cut_numbers a targets caps S may p h in
        let g : given_for targets p ≤ 200 = omega (arith, c, L.target p h) in
        let s = L.start p h in
        rw (e, f, x, y, w) (search shown)
    item_by p l true false e f =
        let h = ltb-true p m e in
        let d = eqb-false p 0 f in
        let x = revised_target (setup a) targets caps p l in
        let x' = revised_target (setup a) targets caps (p - 1) (omega arith) in
        let y = revised_cap (setup a) targets caps p l in
        let w = revised_start (setup a) targets caps p l in
        let c = cut_numbers a targets caps S may p h in
        let r = cut_ranked p (omega (arith, d)) h in
        let g : given_for targets p ≤ 200 = omega (arith, c, L.target p h) in
        let s = L.start p h in
        rw (e, f, x, x', y, w) (search shown)
    item_by p l false u e f =
        let h = ltb-false p m e in
        let c = cut_past a targets caps S may p h l in
        let s = L.no_item p h l in
        rw (e, revised_target (setup a) targets caps p l, revised_cap (setup a) targets caps p l, revised_start (setup a) targets caps p l)
        (search shown)

    revised_within : within_limits t ≡ true
    unfolding revised
    revised_within =
        let w = S.within in
        let i = all_give (item_within t) 8 (λ p l. item_by p l (ltb p m) (eqb p 0) refl refl) in
        let v = sum_ext (target_of t) (given_for targets) m (λ p h. revised_target (setup a) targets caps p (omega (arith, hm))) in
        rw v (search (told, shown))

    -- nothing was kept, and nothing is
    kept_none : (p : ℕ) → p < m → sum_up_to (λ b. kept_in (record_of z b p)) n ≡ 0
    kept_none p hp =
        sum_ext _ _ n (λ b hb. ap kept_in (record_of_lem a targets caps b p (omega (arith, hn)) (omega (arith, hm)))) ∙ second_none a S op cut_second p hp

    none_kept : (b p : ℕ) → b < n → p < m → kept_in (record_of z b p) ≡ 0
    none_kept b p hb hp = let x = sum_ge (λ b. kept_in (record_of z b p)) n b hb in omega (arith, kept_none p hp)

    -- the revised target is no larger, so that what is above it is, with what was cut, no less than what was above the old one
    above_more : (p : ℕ) → p < m
        → held a.records n p - target_of (setup a) p
        ≤ held z.records n p - target_of t p + sum_up_to (λ b. going_in (record_of a b p) - given_for caps p) n
    above_more p hp =
        omega (arith, held_cut L p hp, cut_numbers a targets caps S may p hp, revised_target (setup a) targets caps p (omega (arith, hm)))

    -- "The auction cannot close here": what is taken off becomes free, and targets only fall
    excess_more : excess a ≤ excess z
    unfolding reduced revised
    excess_more =
        let c : ℕ → ℕ → ℕ = λ b p. going_in (record_of a b p) - given_for caps p in
        let x = sum_le (λ p. above_zero (standing_of a p)) (λ p. above_zero (standing_of z p) + sum_up_to (λ b. c b p) n) m
        (λ p hp. omega (
          arith,
          above_more p hp,
          above_zero_lem (held a.records n p) (target_of (setup a) p),
          above_zero_lem (held z.records n p) (target_of (setup z) p),
          target_z p,
        )) in
        let y = sum_add (λ p. above_zero (standing_of z p)) (λ p. sum_up_to (λ b. c b p) n) m in
        let w = sum_swap c n m in
        let f = sum_ext (free_of z) (λ b. free_of a b + cut_from a caps b) n (λ b hb. free_is a targets caps b (omega (arith, hn))) in
        let g = sum_add (free_of a) (cut_from a caps) n in
        omega arith

    some_excess : 0 < excess z
    some_excess = omega (arith, excess_more, later_excess a S op (λ e. omega (arith, cut_second)))

    -- ---- it stands

    -- the reduced book in a phase and at the prices of some lanes
    abbrev with : ℕ → List Lane → Auction
    with ph ls = with_phase (with_lanes z ls) ph

    abbrev price : List Lane → ℕ → ℕ
    price ls p = (get_or ls p no_lane).price

    abbrev before : List Lane → ℕ → ℕ
    before ls p = (get_or ls p no_lane).before

    abbrev mark : List Lane → ℕ → ℕ
    mark ls p = (get_or ls p no_lane).mark

    abbrev priced : Auction
    priced = with_prices z (price_next [] z) (before_next z)

    abbrev onwards : List Lane
    onwards = (with_marks priced (mark_next [] z)).lanes

    on_price : (p : ℕ) → p < 8 → price onwards p ≡ price_next [] z p
    on_price p l = price_stays priced (mark_next [] z) p l ∙ price_anew z (price_next [] z) (before_next z) p l

    on_before : (p : ℕ) → p < 8 → before onwards p ≡ before_next z p
    on_before p l = before_stays priced (mark_next [] z) p l ∙ before_anew z (price_next [] z) (before_next z) p l

    -- what the phase, the prices and the marks have to meet
    record Meets (ph : ℕ) (ls : List Lane) : Type 0 where
      settings : setup (with ph ls) ≡ t
      within : (p : ℕ) → p < m → (1 ≤ price ls p) × (price ls p ≤ before ls p) × (before ls p ≤ start_of (setup a) p)
      fell : (p : ℕ) → p < m → eqb ph bids_open ≡ true → target_of t p < held z.records n p → price ls p < before ls p
      none : (p : ℕ) → m ≤ p → p < 8 → (price ls p ≡ 0) × (before ls p ≡ 0)
      no_mark : (p : ℕ) → p < 8 → mark ls p ≡ 0
      phase : phase_stands (with ph ls) ≡ true

    zero_set : (r : Record) (c : ℕ) → record_zero r ≡ true → record_zero (set_to r c) ≡ true
    zero_set r c e =
        let g : going_in r ≡ 0 = search told in
        let d : denied_in r ≡ 0 = search told in
        let s : lots_zero r.retained ≡ true = search told in
        let h : min (going_in r) c ≡ 0 = omega arith in
        search shown

    zero_past : (k : ℕ) → k < 256 → record_zero (record_at a.records k) ≡ true → record_zero (record_at z.records k) ≡ true
    zero_past k h e = rw (record_is a targets caps k h) (zero_set (record_at a.records k) (given_for caps (k % 8)) e)

    no_free_past : (b : ℕ) → n ≤ b → b < 32 → free_of z b ≡ 0
    no_free_past b h l =
        let s = sum_ext (λ p. going_in (record_of a b p) - given_for caps p) (λ p. 0) m (λ p hp.
        let e = S.no_bidder (b * 8 + p) (omega (arith, hm)) (omega (arith, hm)) in
        let g : going_in (record_of a b p) ≡ 0 = search told in
        omega arith) in
        omega (arith, free_is a targets caps b l, S.no_free b h l, sum_zero m)

    unfiled : (b : ℕ) → has_filed a b ≡ false
    unfiled b = rw (cut_unfiled, zero-div (2 ^ b)) refl

    revised_initial : (b : ℕ) → initial_of t b ≡ initial_of (setup a) b
    unfolding revised
    revised_initial b = refl

    stands_with : (ph : ℕ) (ls : List Lane) → Meets ph ls → Stands (with ph ls)
    unfolding reduced revised
    stands_with ph ls M = record {
      within = rw M.settings revised_within;
      limits = rw M.settings (limits_take t revised_within);
      some_round = S.some_round;
      round = S.round;
      prices = λ p hp.
          let x = M.within p hp in
          (x.0, x.1, omega (arith, x, ap (λ u. start_of u p) M.settings, revised_start (setup a) targets caps p (omega (arith, hm))));
      fell = λ p hp u l. M.fell p hp u (omega (arith, ap (λ u. target_of u p) M.settings));
      kept = λ p hp h. absurd (let x : ⊥ = omega (arith, kept_none p hp) in x);
      no_price = M.none;
      marks = λ p hp h. absurd (let x : ⊥ = omega (arith, M.no_mark p (omega (arith, hm))) in x);
      no_mark = λ p h l. M.no_mark p l;
      exits = λ b p hb hp.
          let q = ap (λ r. r.retained) (record_of_lem a targets caps b p (omega (arith, hn)) (omega (arith, hm))) in
          let e = q ∙ none_left (record_of a b p).retained (S.exits b p hb hp).order (let k = ap total q in omega (arith, none_kept b p hb hp)) in
          rw e (none_exit _ _);
      caps = λ b p hb hp.
          let q = ap held_in (record_of_lem a targets caps b p (omega (arith, hn)) (omega (arith, hm))) in
          let k = ap kept_in (record_of_lem a targets caps b p (omega (arith, hn)) (omega (arith, hm))) in
          let c = ap (λ u. cap_of u p) M.settings in
          omega (arith, none_kept b p hb hp, revised_cap (setup a) targets caps p (omega (arith, hm)));
      no_bidder = λ k l h. zero_past k l (S.no_bidder k l h);
      no_product = λ k l h. zero_past k l (S.no_product k l h);
      eligible = λ b hb.
          let i : initial_of (setup (with ph ls)) b ≡ initial_of (setup a) b = ap (λ u. initial_of u b) M.settings ∙ revised_initial b in
          omega (arith, row_cut L held_in (λ r c. omega arith) b hb, S.eligible b hb);
      no_free = no_free_past;
      slots = λ b l. rw (unfiled b) (rw (unfiled b) at (S.slots b l));
      phase = M.phase;
    }

    start_some : (p : ℕ) → p < m → 1 ≤ price_at z p
    start_some p hp = omega (arith, price_is a targets caps p (omega (arith, hm)), L.start p hp)

    -- stopped, at the starting prices
    ends : stops z ≡ true → Meets stopped z.lanes
    unfolding reduced
    ends e = record {
      settings = reduced_setup a targets caps;
      within = λ p hp.
          let x = price_is a targets caps p (omega (arith, hm)) in
          let y = before_is a targets caps p (omega (arith, hm)) in
          (omega (arith, L.start p hp), omega arith, omega arith);
      fell = λ p hp t. clash t refl;
      none = λ p h l. let s = L.no_item p h l in (price_is a targets caps p l ∙ s.2, before_is a targets caps p l ∙ s.2);
      no_mark = mark_is a targets caps;
      phase = rw (cut_unfiled) (both (lt-ltb 0 (excess z) some_excess) e);
    }

    onward_setup : setup (with bids_open onwards) ≡ t
    onward_setup = marks_setup priced (mark_next [] z) ∙ prices_setup z (price_next [] z) (before_next z) ∙ reduced_setup a targets caps

    none_fit : overrides_fit [] ≡ true
    none_fit = all_give _ 8 (λ p l. refl)

    next_of : stops z ≡ false → (p : ℕ) → p < m
        → Priced z None p (held z.records n p) (price onwards p) (before onwards p) (mark_next [] z p)
    unfolding reduced
    next_of e p hp =
        rw (on_price p (omega (arith, hm)), on_before p (omega (arith, hm)))
        (next z (rw (reduced_setup a targets caps) (limits_take t revised_within)) [] none_fit p hp (start_some p hp) e)

    next_before_lem : stops z ≡ false → (p : ℕ) → p < m → (s : Bool) → ltb (target_of t p) (held z.records n p) ≡ s
        → before onwards p ≡ start_of (setup a) p
    next_before_lem e p hp true f =
        ((next_of e p hp).fell (omega (arith, target_z p, ltb-true (target_of t p) (held z.records n p) f))).2 ∙ price_is a targets caps p (omega (arith, hm))
    next_before_lem e p hp false f =
        ((next_of e p hp).stayed (omega (arith, target_z p, ltb-false (target_of t p) (held z.records n p) f))).1 ∙ before_is a targets caps p (omega (arith, hm))

    -- open, at the prices worked out from them
    goes_on_lem : stops z ≡ false → Meets bids_open onwards
    unfolding reduced
    goes_on_lem e = record {
      settings = onward_setup;
      within = λ p hp. within_by p hp (ltb (target_of t p) (held z.records n p)) refl;
      fell = λ p hp o l. let x = (next_of e p hp).fell (omega (arith, target_z p)) in omega (arith, x);
      none = λ p h l.
          let s = L.no_item p h l in
          let y = next_none z (rw (reduced_setup a targets caps) (limits_take t revised_within)) [] p (price_is a targets caps p l ∙ s.2) (before_is a targets caps p l ∙ s.2) in
          (on_price p l ∙ y.0, on_before p l ∙ y.1);
      no_mark = λ p l. mark_anew priced (mark_next [] z) p l ∙ mark_none z [] p refl;
      phase = later_open (with bids_open onwards) (λ q. omega (arith, cut_second))
          (omega (arith, some_excess, excess_same z (with bids_open onwards) (onward_setup ∙ sym (reduced_setup a targets caps)) refl refl)) (λ _. kept_none);
    }
      where
        within_by : (p : ℕ) → p < m → (s : Bool) → ltb (target_of t p) (held z.records n p) ≡ s
            → (1 ≤ price onwards p) × (price onwards p ≤ before onwards p) × (before onwards p ≤ start_of (setup a) p)
        within_by p hp true f =
            let x = (next_of e p hp).fell (omega (arith, target_z p, ltb-true (target_of t p) (held z.records n p) f)) in
            let y = price_is a targets caps p (omega (arith, hm)) in
            (omega (arith, x), omega (arith, x), omega (arith, x))
        within_by p hp false f =
            let x = (next_of e p hp).stayed (omega (arith, target_z p, ltb-false (target_of t p) (held z.records n p) f)) in
            let y = price_is a targets caps p (omega (arith, hm)) in
            let w = before_is a targets caps p (omega (arith, hm)) in
            (omega (arith, x, L.start p hp), omega (arith, x), omega (arith, x))

    -- what holds of both ends holds of the auction cut back
    cut_each : (P : Auction → Type 0)
        → (stops z ≡ true → P (with stopped z.lanes))
        → (stops z ≡ false → P (with bids_open onwards))
        → P (cut_back a targets caps)
    unfolding cut_back reduced
    cut_each P f g = by (stops z) refl
      where
        by : (s : Bool) → stops z ≡ s → P (cond s z (opens_at [] z.round z))
        by true e = f e
        by false e = g e

    -- a cutback leaves what stands standing
    pub cut_stands : Stands (cut_back a targets caps)
    cut_stands = cut_each Stands (λ e. stands_with stopped z.lanes (ends e)) (λ e. stands_with bids_open onwards (goes_on_lem e))

    -- the lists keep their lengths
    pub cut_long : Long a → Long (cut_back a targets caps)
    unfolding reduced
    cut_long K = cut_each Long (λ e. long stopped z.lanes (list_long _ 8)) (λ e. long bids_open onwards (list_long _ 8))
      where
        long : (ph : ℕ) (ls : List Lane) → length ls ≡ 8 → Long (with ph ls)
        long ph ls x = record { lanes = x; seats = list_long _ 32; row = K.row; records = list_long _ 256; lines = K.lines }

    -- ---- what it changes

    pub cut_only : CutOnly a (cut_back a targets caps) targets caps
    unfolding reduced revised
    cut_only =
        cut_each (λ y. CutOnly a y targets caps) (λ e. only stopped z.lanes (inr refl) (ends e) refl)
        (λ e. only bids_open onwards (inl refl) (goes_on_lem e) (excess_same z (with bids_open onwards) (onward_setup ∙ sym (reduced_setup a targets caps)) refl refl))
      where
        only : (ph : ℕ) (ls : List Lane) → (ph ≡ bids_open) ⊎ (ph ≡ stopped) → Meets ph ls → excess (with ph ls) ≡ excess z
            → CutOnly a (with ph ls) targets caps
        only ph ls h M x = record {
          settings = M.settings;
          round = refl;
          cards = refl;
          marks = M.no_mark;
          phase = h;
          going = λ b p hb hp. ap going_in (record_of_lem a targets caps b p hb hp);
          denied = λ b p hb hp. ap denied_in (record_of_lem a targets caps b p hb hp);
          retained = λ b p hb hp. ap (λ r. r.retained) (record_of_lem a targets caps b p hb hp);
          moved = row_cut L going_in (λ r c. omega arith);
          eligible = row_cut L (λ r. going_in r + denied_in r) (λ r c. omega arith);
          excess = omega (arith, excess_more);
        }

    pub cut_price : (p : ℕ) → p < a.terms.products → CutPrice a (cut_back a targets caps) p
    unfolding reduced revised
    cut_price p hp =
        cut_each (λ y. CutPrice a y p) (λ e. record {
          before = before_is a targets caps p (omega (arith, hm));
          fell = λ o. clash o refl;
          stayed = λ o. clash o refl;
          ended = λ o. price_is a targets caps p (omega (arith, hm));
        })
        opened
      where
        opened : stops z ≡ false → CutPrice a (with bids_open onwards) p
        opened e =
            let N = next_of e p hp in
            let x = price_is a targets caps p (omega (arith, hm)) in
            let w : target_of (setup (with bids_open onwards)) p ≡ target_of (setup z) p = ap (λ u. target_of u p) onward_setup ∙ sym (target_z p) in
            record {
              before = next_before_lem e p hp (ltb (target_of t p) (held z.records n p)) refl;
              fell = λ o l. let v = N.fell (omega (arith, w)) in (v.0, omega (arith, v));
              stayed = λ o l. (N.stayed (omega (arith, w))).0 ∙ x;
              ended = λ o. clash refl o;
            }
