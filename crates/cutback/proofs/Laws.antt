-- Whether the numbers fit; and the reduced book, worked out before it is written. Assumes nothing.
use mathlib.Core.Path.{◌≡◌, refl, sym, ap, ap₂, ◌∙◌}
use mathlib.Core.Bool.{Bool, true, false, ◌&&◌, cond}
use mathlib.Core.List.{List, []}
use Prim.Native.Nat.{ℕ, zero, suc, ◌+◌, ◌*◌, ◌-◌, ◌%◌, ◌≤◌, ◌<◌, min}
use native.Mathlib.Omega.{arith}
use borrow.Author.Tests.{le-leb, le-ltb, leb-true, leb-false, eqb-true, ne_eqb}
use lib.Dec.{leb, ltb, eqb}
use lib.ListN.{replicate, get_or-replicate}
use Rattle.std.specs.Prelude.{None}
use Rattle.rules.specs.declared.Tranches.{Tranches}
use Rattle.rules.specs.declared.Place.{Place}
use Rattle.rules.specs.declared.Setup.{Setup}
use Rattle.rules.specs.declared.Auction.{Auction}
use Rattle.rules.specs.Count.{sum_up_to, all_up_to, list_of}
use Rattle.rules.specs.Units.{tranches}
use Rattle.rules.specs.Answers.{bids_open, stopped}
use Rattle.rules.specs.Parts.{tranches_at, no_lane, lane_at, priced, marked, limited, auction, with_phase, with_limits, with_prices, unmarked}
use Rattle.rules.specs.Settings.{between, setup, target_of, cap_of, start_of}
use Rattle.rules.specs.Lots.{no_lots}
use Rattle.rules.specs.Held.{nothing, going_in, held_in, record_at, place, set_to, above, standing_of}
use Rattle.rules.specs.Accept.{at, nowhere, place_at, column, held_of}
use Rattle.rules.specs.Bid.{one_if, record_of, price_at}
use Rattle.rules.specs.Price.{next_price}
use Rattle.rules.specs.Round.{not_chosen, override_for, opens_at, price_next, mark_next, before_next}
use Rattle.rules.specs.Cutback.{given_for, numbers_fit, free_cut, set_to_caps, reduced, cut_back}
use Rattle.rules.specs.Layout.{loaded}
use Rattle.rules.proofs.Allowed.{leb_min}
use Rattle.rules.proofs.Sums.{sum_ext, sum_le, and_left}
use Rattle.rules.proofs.Lists.{list_at, list_ext, all_take}
use Rattle.rules.proofs.Parts.{target_is, marked_at, free_ext}
use Rattle.rules.proofs.Priorities.{sum_const}
use Rattle.rules.proofs.Fitting.{bidder_small, record_small}
use Rattle.book.specs.Lent.{Counts}
use Rattle.table.specs.Room.{Held}
use Rattle.storing.specs.Written.{amount_at, records_in}
use Rattle.prices.specs.declared.Lanes.{Lanes}
use Rattle.prices.specs.declared.Outlook.{Outlook}
use Rattle.prices.specs.Outlook.{Foresees, Listed, Shows}
use Rattle.prices.proofs.Laws.{stops_of, price_of_lem, before_of}
use Rattle.cutback.specs.Cuttable.{fits_after, last_of, limited_to, Cuttable, Cutting}

-- ---- the numbers

regroup : (a b c d e f : Bool) → ((a && (b && c)) && (d && (e && f))) ≡ ((b && e) && ((a && d) && (c && f)))
regroup true false c d e f = refl
regroup false false c d e f = refl
regroup false true c d false f = refl
regroup false true c d true f = refl
regroup true true false d false f = refl
regroup true true true true false f = refl
regroup true true true false false f = refl
regroup true true true d true f = refl
regroup true true false true true f = refl
regroup true true false false true f = refl

-- the limits as the tests of a target and a cap
pub limits_are : (t : Setup) (target cap last p : ℕ)
    → (between 1 target (min (target_of t p) last) && between 1 cap (min (cap_of t p) target))
    ≡ ((leb target (target_of t p) && leb cap (cap_of t p)) && ((leb 1 target && leb 1 cap) && (leb target last && leb cap target)))
limits_are t target cap last p =
    rw (leb_min target (target_of t p) last, leb_min cap (cap_of t p) target)
    (regroup (leb 1 target) (leb target (target_of t p)) (leb target last) (leb 1 cap) (leb cap (cap_of t p)) (leb cap target))

module _ (t : Setup) (targets caps : List Tranches) where
  abbrev fits_by : ℕ → Bool → Bool
  fits_by p ranked =
      cond (ltb p t.terms.products)
      ((leb (given_for targets p) (target_of t p) && leb (given_for caps p) (cap_of t p))
      && ((leb 1 (given_for targets p) && leb 1 (given_for caps p)) && (ranked && leb (given_for caps p) (given_for targets p))))
      (eqb (given_for targets p) 0 && eqb (given_for caps p) 0)

  fits_by_last : (p last : ℕ) → given_for targets p ≤ 65535 → last ≡ last_of targets p
      → fits_after t (given_for targets p) (given_for caps p) last p ≡ numbers_fit t targets caps p
  fits_by_last zero last h e = ap (fits_by 0) (le-leb (given_for targets 0) last (omega arith))
  fits_by_last (suc p) last h e =
      let n = ne_eqb (suc p) 0 (λ z. omega arith) in
      ap (λ x. fits_by (suc p) (leb (given_for targets (suc p)) x)) (e ∙ ap (λ q. cond q 65535 (given_for targets (suc p - 1))) n)
      ∙ sym (ap (λ q. fits_by (suc p) (cond q true (leb (given_for targets (suc p)) (given_for targets (suc p - 1))))) n)

  pub fits_is : (p last : ℕ) {b : Bool} → given_for targets p ≤ 65535 → last ≡ last_of targets p
      → b ≡ fits_after t (given_for targets p) (given_for caps p) last p → b ≡ numbers_fit t targets caps p
  fits_is p last h e f = f ∙ fits_by_last p last h e

  -- past the products in use the targets are 0
  sum_rest : (n : ℕ) → t.terms.products ≤ n → ((p : ℕ) → t.terms.products ≤ p → p < n → given_for targets p ≡ 0)
      → sum_up_to (given_for targets) n ≡ sum_up_to (given_for targets) t.terms.products
  sum_rest zero h z = let e : t.terms.products ≡ 0 = omega arith in rw e
  sum_rest (suc n) h z = by (leb t.terms.products n) refl (λ l. sum_rest n l (λ p k q. z p k (omega arith))) (λ l. z n l (omega arith))
    where
      by : (u : Bool) → leb t.terms.products n ≡ u
          → (t.terms.products ≤ n → sum_up_to (given_for targets) n ≡ sum_up_to (given_for targets) t.terms.products)
          → (t.terms.products ≤ n → given_for targets n ≡ 0)
          → sum_up_to (given_for targets) (suc n) ≡ sum_up_to (given_for targets) t.terms.products
      by true e r w = let l = leb-true t.terms.products n e in omega (arith, r l, w l)
      by false e r w =
          let l = leb-false t.terms.products n e in
          let q : t.terms.products ≡ suc n = omega arith in
          rw q

  none_past : (p : ℕ) → t.terms.products ≤ p → numbers_fit t targets caps p ≡ true → given_for targets p ≡ 0
  none_past p h e =
      eqb-true _ _ (and_left (eqb (given_for targets p) 0) (eqb (given_for caps p) 0) (rw (le-ltb p t.terms.products h) at e))

  -- "a new volume below it is refused"
  pub volume_is : (w v : ℕ) (fit : Bool) → t.terms.products ≤ 8 → fit ≡ all_up_to (numbers_fit t targets caps) 8 → v ≡ sum_up_to (given_for targets) 8
      → (fit && leb w v) ≡ (all_up_to (numbers_fit t targets caps) 8 && leb w (sum_up_to (given_for targets) t.terms.products))
  volume_is w v true few e f =
      let a = all_take (numbers_fit t targets caps) 8 (sym e) in
      ap₂ (λ b x. b && leb w x) e (f ∙ sum_rest 8 few (λ p h l. none_past p h (a p l)))
  volume_is w v false few e f = ap (λ b. b && leb w (sum_up_to (given_for targets) t.terms.products)) e

-- ---- the reduced book

-- a record holds at most 200 tranches, and free eligibility is at most 1,600
module _ (s : List ℕ) (targets caps : List Tranches) (C : Cutting s targets caps) where
  pub counts : Counts (loaded s)
  counts = let L = C.stands.limits in record { products = L.products; bidders = L.bidders; rows = L.rows }

  pub cuttable : Cuttable s
  cuttable =
      let L = C.stands.limits in record {
        lent = record { long = C.long; counts = counts };
        room = λ b h.
            let m = L.products in
            let r = sum_le (λ p. going_in (record_of (loaded s) b p)) (λ p. 200) (loaded s).terms.products
            (λ p l. omega (arith, (record_small (loaded s) C.stands (place b p) (omega arith)).0)) in
            omega (arith, sum_const 200 (loaded s).terms.products, bidder_small (loaded s) C.stands b h);
      }

-- with no override no price is marked
no_mark : (t : Bool) → one_if (t && false) ≡ 0
no_mark true = refl
no_mark false = refl

module _ (a : Auction) (targets caps : List Tranches) where
  abbrev z : Auction
  z = reduced a targets caps

  abbrev placed : ℕ → Place
  placed k = at (set_to (record_at a.records k) (given_for caps (k % 8))) no_lots 0 0 0

  abbrev limits : Auction
  limits = unmarked (with_limits (set_to_caps a caps) (given_for targets) (given_for caps))

  unmarked_is : (p : ℕ) → p < 8 → lane_at limits p ≡ marked (lane_at (with_limits (set_to_caps a caps) (given_for targets) (given_for caps)) p) 0
  unmarked_is = marked_at (with_limits (set_to_caps a caps) (given_for targets) (given_for caps)) (λ p. 0)

  -- a lane of it has the revised target, at the starting price
  lane_is : (p : ℕ) → p < 8 → lane_at z p ≡ priced (lane_at limits p) (start_of (setup a) p) (start_of (setup a) p)
  unfolding reduced
  lane_is p h = list_at (λ p. priced (lane_at limits p) (start_of (setup a) p) (start_of (setup a) p)) no_lane 8 p h

  target_of_lem : (p : ℕ) → p < 8 → target_of (setup z) p ≡ given_for targets p
  target_of_lem p h =
      target_is z p h ∙ ap (λ l. l.target.0) (lane_is p h) ∙ ap (λ l. l.target.0) (unmarked_is p h)
      ∙ ap (λ l. l.target.0) (list_at (λ p. limited (lane_at (set_to_caps a caps) p) (given_for targets p) (given_for caps p)) no_lane 8 p h)

  module _ (ps : List Place) (e : ps ≡ list_of placed 256) where
    place_is : (k : ℕ) → k < 256 → (place_at ps k).holds ≡ set_to (record_at a.records k) (given_for caps (k % 8))
    place_is k h = ap (λ ps. (place_at ps k).holds) e ∙ ap (λ l. l.holds) (list_at placed nowhere 256 k h)

    records_is : records_in ps ≡ list_of (λ k. set_to (record_at a.records k) (given_for caps (k % 8))) 256
    records_is = list_ext _ _ 256 place_is

    module _ (holds : List ℕ) (l : Lanes) (few : a.terms.bidders ≤ 32) (n : ℕ) (en : n ≡ a.terms.bidders) (H : Held holds ps n)
        (L : Listed l (given_for targets) (start_of (setup a)) (start_of (setup a))) where
      shows : Shows a z holds l
      unfolding reduced
      shows = record {
        terms = refl;
        decrements = refl;
        round = refl;
        held = λ p h. H.sums.each p h ∙ ap (column held_of ps p) en ∙ sum_ext _ _ a.terms.bidders (λ b k.
            ap held_in (place_is (b * 8 + p) (omega arith)
            ∙ sym (list_at (λ k. set_to (record_at a.records k) (given_for caps (k % 8))) nothing 256 (b * 8 + p) (omega arith))));
        lanes = record {
          target = λ p h. L.target p h ∙ sym (target_of_lem p h);
          price = λ p h. L.price p h ∙ sym (ap (λ l. l.price) (lane_is p h));
          before = λ p h. L.before p h ∙ sym (ap (λ l. l.before) (lane_is p h));
        };
      }

      module _ {r : Outlook} (F : Foresees a holds l r) (m : a.terms.products ≤ 8) (free : List Tranches)
          (f : free ≡ list_of (λ b. tranches (free_cut a caps b)) 32) (given : l.overrides ≡ replicate 8 not_chosen) where
        seats_is : (limited_to a ps free targets caps).seats ≡ z.seats
        unfolding reduced
        seats_is =
            free_ext a (tranches_at free) (free_cut a caps) (λ b h.
            ap (λ fs. tranches_at fs b) f ∙ ap (λ n. n.0) (list_at (λ b. tranches (free_cut a caps b)) (tranches 0) 32 b h))

        settled : (t : Bool) → r.stops ≡ t → cond t z (opens_at [] z.round z) ≡ cut_back a targets caps
        unfolding cut_back
        settled t g = ap (λ t. cond t z (opens_at [] z.round z)) (sym g ∙ stops_of F shows m)

        -- "the auction is then stopped in round 2, with p = q = starting price"
        pub ends : r.stops ≡ true
            → with_prices (with_phase (limited_to a ps free targets caps) stopped) (amount_at l.price) (amount_at l.price) ≡ cut_back a targets caps
        unfolding reduced
        ends g =
            let ls = list_ext (λ p. priced (lane_at limits p) (amount_at l.price p) (amount_at l.price p)) _ 8
            (λ p h. ap₂ (priced (lane_at limits p)) (L.price p h) (L.price p h)) in
            (λ i. auction stopped a.round a.terms (ls i) (seats_is i) a.decrements (records_is i) a.cards) ∙ settled true g

        none : (p : ℕ) → p < 8 → override_for l.overrides p ≡ None
        none p h = ap (λ os. override_for os p) given ∙ get_or-replicate 8 p not_chosen not_chosen h

        -- the lane worked out afresh
        fresh : (p : ℕ) → p < 8 → lane_at (with_prices z (price_next [] z) (before_next z)) p ≡ priced (lane_at limits p) (price_next [] z p) (before_next z p)
        fresh p h =
            list_at (λ p. priced (lane_at z p) (price_next [] z p) (before_next z p)) no_lane 8 p h
            ∙ ap (λ l. priced l (price_next [] z p) (before_next z p)) (lane_is p h)

        pub goes_on_lem : r.stops ≡ false
            → with_prices (with_phase (limited_to a ps free targets caps) bids_open) (amount_at r.price) (amount_at r.before) ≡ cut_back a targets caps
        unfolding reduced
        goes_on_lem g =
            let ls = list_ext (λ p. priced (lane_at limits p) (amount_at r.price p) (amount_at r.before p))
            (λ p. marked (lane_at (with_prices z (price_next [] z) (before_next z)) p) (mark_next [] z p)) 8
            (λ p h. ap₂ (priced (lane_at limits p)) (price_of_lem F shows m p h ∙ ap (λ o. (next_price z.decrements o (standing_of z p) (target_of (setup z) p) (price_at z p)).price) (none p h)) (before_of F shows m p h)
            ∙ ap₂ marked (sym (fresh p h)) (ap (λ l. l.mark) (unmarked_is p h) ∙ sym (no_mark (above (standing_of z p))))) in
            (λ i. auction bids_open a.round a.terms (ls i) (seats_is i) a.decrements (records_is i) a.cards) ∙ settled false g
