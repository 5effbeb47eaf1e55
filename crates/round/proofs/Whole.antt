-- The whole, against the definition. Assumes nothing.
use mathlib.Core.Path.{◌≡◌, refl, sym, ◌∙◌, ap, ap₂, subst}
use mathlib.Core.Bool.{true, false, cond}
use mathlib.Core.List.{List}
use Prim.Native.Nat.{ℕ, ◌+◌, ◌*◌, ◌≤◌}
use native.Mathlib.Omega.{arith}
use borrow.Author.Tests.{eq-eqb, ne_eqb}
use lib.Dec.{eqb}
use lib.ListN.{get_or, replicate}
use Rattle.rules.specs.declared.Calculation.{Calculation}
use Rattle.rules.specs.Price.{Override}
use Rattle.rules.specs.declared.Tranches.{Tranches}
use Rattle.rules.specs.declared.Lane.{Lane}
use Rattle.rules.specs.declared.Place.{Place}
use Rattle.rules.specs.declared.Kept.{Kept}
use Rattle.rules.specs.declared.Outbid.{Outbid}
use Rattle.rules.specs.declared.Auction.{Auction}
use Rattle.rules.specs.Count.{sum_up_to}
use Rattle.rules.specs.Units.{tranches}
use Rattle.rules.specs.Parts.{tranches_at, lane_at, marked, with_round, with_lanes, with_prices, with_marks}
use Rattle.rules.specs.Settings.{setup, target_of}
use Rattle.rules.specs.Answers.{bids_open, closed, stopped}
use Rattle.rules.specs.Held.{nothing, held_in, excess, ticked}
use Rattle.rules.specs.Accept.{place_at, accepted_all, column, every, left_of, held_of, kept_of}
use Rattle.rules.specs.Keep.{kept, kept_all}
use Rattle.rules.specs.Plain.{plain_all}
use Rattle.rules.specs.Outbid.{deemed_up_to, outbid, outbid_all}
use Rattle.rules.specs.Round.{drawn, booked, at_rest, price_next, mark_next, before_next, onward, stops, order_fits, settled, after_step2, plain_step2, after_step4, after_kept, calculated, calculated_plain}
use Rattle.rules.specs.Layout.{loaded, stored}
use Rattle.rules.proofs.Sums.{sum_ext}
use Rattle.rules.proofs.Lists.{list_at, list_ext}
use Rattle.rules.proofs.Parts.{prices_ext, price_stays, before_stays, marks_setup, free_anew, free_setup}
use Rattle.book.specs.Lent.{Counts}
use Rattle.held.specs.Ticks.{Ticks}
use Rattle.table.specs.Drawn.{Drawn}
use Rattle.held.specs.Ticks.{is_one}
use Rattle.table.specs.Room.{target_on, Held}
use Rattle.storing.specs.Written.{amount_at}
use Rattle.prices.specs.declared.Lanes.{Lanes}
use Rattle.prices.specs.declared.Outlook.{Outlook}
use Rattle.prices.specs.Outlook.{Foresees, Shows}
use Rattle.prices.proofs.Laws.{over_of, stops_of, price_of_lem, mark_of, before_of}
use Rattle.round.specs.Ready.{LanesOf, opens_with, Ready, Tallies}
use Rattle.round.proofs.Bids.{drawn_all}
use Rattle.round.proofs.Same.{deemed_same, keep_same, plain_same, outbid_same}

-- ---- step 5, worked out before the book is written

module _ (a : Auction) (ps : List Place) (free : List Tranches) (holds : List ℕ) (l : Lanes) (C : Counts a) (n : ℕ)
    (en : n ≡ a.terms.bidders) (H : Held holds ps n) (L : LanesOf l a) where
  abbrev o : Outbid
  o = outbid ps free 0

  abbrev os : List Override
  os = l.overrides

  abbrev rest : Auction
  rest = at_rest closed a o

  -- the book at rest has the settings of before, and its records are those of the places
  shows : Shows a rest holds l
  shows =
      let t : setup rest ≡ setup a = marks_setup (booked a o) (λ p. 0) ∙ free_setup a _ in
      let c = C.bidders in
      record {
        terms = refl;
        decrements = refl;
        round = refl;
        held = λ p h. H.sums.each p h ∙ ap (column held_of ps p) en ∙ sym (sum_ext _ _ a.terms.bidders (λ b k.
            ap held_in (list_at (λ k. (place_at ps k).holds) nothing 256 (b * 8 + p) (omega arith))));
        lanes = record {
          target = λ p h. L.target p h ∙ ap (λ t. target_of t p) (sym t);
          price = λ p h. L.price p h ∙ sym (price_stays (booked a o) (λ p. 0) p h);
          before = λ p h. L.before p h ∙ sym (before_stays (booked a o) (λ p. 0) p h);
        };
      }

  module _ {r : Outlook} (F : Foresees a holds l r) {f : ℕ} (e : f ≡ sum_up_to (tranches_at free) n) where
    excess_is : excess rest ≡ r.over + f
    excess_is =
        let c = C.bidders in
        sym (ap₂ ◌+◌ (over_of F shows C.products) (e ∙ ap (sum_up_to (tranches_at free)) en ∙ sym (sum_ext _ _ a.terms.bidders (λ b k. free_anew a (tranches_at free) b (omega arith)))))

    pub ends : r.over + f ≡ 0 → rest ≡ settled a os o
    ends z = sym (ap (λ t. cond t rest (cond (stops rest) (at_rest stopped a o) (onward os rest))) (eq-eqb _ _ (excess_is ∙ z)))

    module _ (h : r.over + f ≡ 0 → ⊥) where
      -- the prices, and then the marks
      lanes_next : (with_marks (with_prices rest (amount_at r.price) (amount_at r.before)) (λ p. get_or r.mark p 0)).lanes
          ≡ (with_marks (with_prices rest (price_next os rest) (before_next rest)) (mark_next os rest)).lanes
      lanes_next =
          ap (λ (ls : List Lane). (with_marks (with_lanes rest ls) (λ p. get_or r.mark p 0)).lanes)
          (prices_ext rest (amount_at r.price) (amount_at r.before) _ _ (price_of_lem F shows C.products) (before_of F shows C.products))
          ∙ list_ext _ _ 8 (λ p h. ap (marked (lane_at (with_prices rest (price_next os rest) (before_next rest)) p)) (mark_of F shows C.products p h))

      some : eqb (excess rest) 0 ≡ false
      some = ne_eqb _ _ (λ z. h (sym excess_is ∙ z))

      pub stops_here : r.stops ≡ true → at_rest stopped a o ≡ settled a os o
      stops_here s =
          sym (ap₂ (λ t u. cond t rest (cond u (at_rest stopped a o) (onward os rest))) some (sym (stops_of F shows C.products) ∙ s))

      pub goes_on_lem : r.stops ≡ false → (n : ℕ) → n ≡ a.round
          → opens_with rest (n + 1) (amount_at r.price) (amount_at r.before) (λ p. get_or r.mark p 0) ≡ settled a os o
      goes_on_lem s n g =
          (λ i. with_lanes (with_round (at_rest bids_open a o) (g i + 1)) (lanes_next i))
          ∙ sym (ap₂ (λ t u. cond t rest (cond u (at_rest stopped a o) (onward os rest))) some (sym (stops_of F shows C.products) ∙ s))

-- ---- the steps before it

module _ (a : Auction) (draw ticks : List ℕ) (l : Lanes) (T : Ticks ticks a) (G : LanesOf l a) (few : a.terms.products ≤ 8) where
  abbrev m : ℕ
  m = a.terms.products

  abbrev n : ℕ
  n = a.terms.bidders

  -- step 2 by rank, and in an order
  pub kept_is : (k : Kept) (ps : List Place) → ps ≡ accepted_all a → k ≡ kept_all m n (target_on l.target) (is_one ticks) (drawn draw) ps
      → k ≡ after_step2 a draw
  kept_is k ps e f =
      f ∙ ap (kept_all m n (target_on l.target) (is_one ticks) (drawn draw)) e
      ∙ keep_same (is_one ticks) (ticked a) T m n few (target_on l.target) (target_of (setup a)) G.target (drawn draw)
      (every left_of (accepted_all a) n) (accepted_all a) 0

  pub plain_is : (order : List ℕ) → Drawn m order → (k : Kept) (ps : List Place) → ps ≡ accepted_all a
      → k ≡ plain_all m n (target_on l.target) (is_one ticks) (drawn draw) (drawn order) ps → k ≡ plain_step2 a draw order
  plain_is order O k ps e f =
      f ∙ ap (plain_all m n (target_on l.target) (is_one ticks) (drawn draw) (drawn order)) e
      ∙ plain_same (is_one ticks) (ticked a) T m n few (target_on l.target) (target_of (setup a)) G.target (drawn draw) (drawn order)
      O.range (every left_of (accepted_all a) n) (kept (accepted_all a) 0)

  -- steps 3 and 4
  pub outbid_is : (qs ps : List Place) (o : Outbid) → ps ≡ deemed_up_to (is_one ticks) qs (n * 8)
      → o ≡ outbid_all m n (target_on l.target) (is_one ticks) (drawn draw) ps (replicate 32 (tranches 0)) → o ≡ after_step4 a draw qs
  outbid_is qs ps o e f =
      let rs : List Place = deemed_up_to (ticked a) qs (n * 8) in
      let w : ps ≡ rs = e ∙ deemed_same (is_one ticks) (ticked a) T qs (n * 8) in
      f ∙ ap (λ ps. outbid_all m n (target_on l.target) (is_one ticks) (drawn draw) ps (replicate 32 (tranches 0))) w
      ∙ outbid_same (is_one ticks) (ticked a) T m n few (target_on l.target) (target_of (setup a)) G.target (drawn draw)
      (every kept_of rs n) (outbid rs (replicate 32 (tranches 0)) 0)

-- ---- the whole

module _ (s draw : List ℕ) (R : Ready s draw) where
  abbrev a : Auction
  a = loaded s

  module _ {m n : ℕ} (em : m ≡ a.terms.products) (en : n ≡ a.terms.bidders) where
    pub few : m ≤ 8
    few = omega (arith, R.stands.limits.products)

    pub drawn_by : Drawn n draw
    drawn_by = rw en (drawn_all a.terms.bidders draw R.stands.limits.bidders R.draw)

    -- each product once
    pub ordered_by : {order : List ℕ} → order_fits a.terms.products order ≡ true → Drawn m order
    ordered_by {order} O = rw em (drawn_all a.terms.products order (omega (arith, R.stands.limits.products)) O)

    module _ (ticks : List ℕ) (l : Lanes) (T : Ticks ticks a) (G : LanesOf l a) where
      -- steps 3 to 5, from whatever step 2 kept
      pub finishes : (qs ps rs : List Place) (k o : ℕ) (free : List Tranches) → ps ≡ deemed_up_to (is_one ticks) qs (n * 8)
          → outbid rs free o ≡ outbid_all m n (target_on l.target) (is_one ticks) (drawn draw) ps (replicate 32 (tranches 0))
          → {z : List ℕ} → z ≡ stored (settled a l.overrides (outbid rs free 0))
          → Tallies (after_kept a draw l.overrides (kept qs k)) (record { kept = k; outbid = o }) z
      finishes qs ps rs k o free e₃ e₄ h =
          let step-4 : outbid rs free o ≡ after_step4 a draw qs =
          outbid_is a draw ticks l T G R.stands.limits.products qs ps (outbid rs free o) (rw en at e₃) (rw (em, en) at e₄) in
          record {
            kept = refl;
            outbid = ap (λ o. o.count) step-4;
            bytes = h ∙ ap (λ o. stored (settled a l.overrides o)) step-4;
          }

      module _ {os : List Override} (g : l.overrides ≡ os) (ps qs : List Place) (k : ℕ) (e : ps ≡ accepted_all a) {r : Calculation} {z : List ℕ}
          (F : Tallies (after_kept a draw l.overrides (kept qs k)) r z) where
        -- what step 2 is by its definition
        tallied : (x : Kept) → kept qs k ≡ x → Tallies (after_kept a draw os x) r z
        tallied x f = subst (λ (y : List Override × Kept). Tallies (after_kept a draw y.0 y.1) r z) (ap₂ (λ os k. (os, k)) g f) F

        pub calculates : kept qs k ≡ kept_all m n (target_on l.target) (is_one ticks) (drawn draw) ps → Tallies (calculated a draw os) r z
        unfolding calculated
        calculates f = tallied _ (kept_is a draw ticks l T G R.stands.limits.products (kept qs k) ps e (rw (em, en) at f))

        pub calculates_plain_lem : (order : List ℕ) → order_fits a.terms.products order ≡ true
            → kept qs k ≡ plain_all m n (target_on l.target) (is_one ticks) (drawn draw) (drawn order) ps
            → Tallies (calculated_plain a draw os order) r z
        unfolding calculated_plain
        calculates_plain_lem order O f =
            let D = drawn_all a.terms.products order (omega (arith, R.stands.limits.products)) O in
            tallied _ (plain_is a draw ticks l T G R.stands.limits.products order D (kept qs k) ps e (rw (em, en) at f))
