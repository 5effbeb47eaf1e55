-- The laws of one round. Assumes nothing.
use mathlib.Core.Path.{◌≡◌, refl, ◌∙◌, ap}
use mathlib.Core.Bool.{Bool, true, false, cond}
use mathlib.Core.List.{List}
use Prim.Native.Nat.{ℕ, ◌+◌, ◌*◌, ◌%◌, ◌≤◌, ◌<◌}
use native.Mathlib.Omega.{arith}
use borrow.Author.Tests.{ltb-true, ltb-false}
use lib.Dec.{ltb}
use Rattle.rules.specs.Price.{Override}
use Rattle.rules.specs.declared.Place.{Place}
use Rattle.rules.specs.declared.Outbid.{Outbid}
use Rattle.rules.specs.declared.Auction.{Auction}
use Rattle.rules.specs.Count.{sum_up_to}
use Rattle.rules.specs.Answers.{closed}
use Rattle.rules.specs.Settings.{setup, target_of}
use Rattle.rules.specs.Held.{going_in, denied_in, kept_in, held, ticked, eligibility}
use Rattle.rules.specs.Bid.{bid_in, record_of, bid_on}
use Rattle.rules.specs.Accept.{place_at, accepted_all, kept_of, rise_of, deem, column}
use Rattle.rules.specs.Outbid.{deem_if, deemed_up_to}
use Rattle.rules.specs.Round.{draw_fits, override_for, overrides_fit, after_step2, after_step4, settled, calculated}
use Rattle.rules.specs.Legal.{kept_on, is_open}
use Rattle.laws.specs.Counted.{kept_where_ticked, deemed_at, CountsOutbid}
use Rattle.rules.proofs.Sums.{sum_ext, sum_six, sum_zero}
use Rattle.rules.proofs.LotLaws.{beginning_within}
use Rattle.rules.specs.Stands.{Stands, Long}
use Rattle.rules.proofs.Places.{going_of}
use Rattle.laws.proofs.Outbidding.{deemed_exact}
use Rattle.laws.proofs.Made.{AllAccepted, made_none}
use Rattle.laws.proofs.Booked.{Booked, kept_end, out_end, trail, unticked, booked_begins, booked_within, kept_ticked, booked}
use Rattle.laws.specs.OneCall.{PriceAfter, PriceBy, LotsAfter}
use Rattle.laws.proofs.Settled.{Closes, settled_stands, settled_long, settled_prices, settled_by_whom, settled_closes, settled_setup, settled_held, settled_kept, settled_record, settled_eligibility}

module _ (a : Auction) (draw : List ℕ) (os : List Override) (S : Stands a) (L : Long a) (op : is_open a ≡ true)
    (D : draw_fits a.terms.bidders draw ≡ true) (O : overrides_fit os ≡ true) (A : AllAccepted a) where
  B : Booked a (after_step4 a draw (after_step2 a draw).places)
  B = booked a draw S L op D A

  -- the settings stay
  pub round_setup : setup (calculated a draw os).auction ≡ setup a
  unfolding calculated
  round_setup = settled_setup a os _ S B O

  -- what stood stands
  pub round_stands : Stands (calculated a draw os).auction
  unfolding calculated
  round_stands = settled_stands a os _ S B O

  -- and its lists keep their lengths
  pub round_long : Long (calculated a draw os).auction
  unfolding calculated
  round_long = settled_long a os _ S B O L

  -- the filled part of no product, the lesser of held and target, falls
  pub round_filled : (p x : ℕ) → p < a.terms.products → x ≤ target_of (setup a) p
      → x ≤ held a.records a.terms.bidders p → x ≤ held (calculated a draw os).auction.records a.terms.bidders p
  unfolding calculated
  round_filled p x hp g h = omega (arith, settled_held a os _ S B O p hp, B.filled p x hp g h)

  -- a bidder's eligibility after the round is what it bid and had denied before it
  pub round_eligibility : (b : ℕ) → b < a.terms.bidders
      → eligibility (calculated a draw os).auction b ≡ sum_up_to (λ p. bid_in (bid_on a b p) + denied_in (record_of a b p)) a.terms.products
  unfolding calculated
  round_eligibility b hb = settled_eligibility a os _ S B O b hb

  -- where the round closes the auction
  pub round_closes : (calculated a draw os).auction.phase ≡ closed → Closes a (calculated a draw os).auction
  unfolding calculated
  round_closes c = settled_closes a os _ S B O c

  -- no price rises; it falls where more than the target is held and the next round opens, and nowhere else: with and without an override
  pub round_prices : (p : ℕ) → p < a.terms.products → PriceAfter a (calculated a draw os).auction p
  unfolding calculated
  round_prices p hp = settled_prices a os _ S B O p hp

  -- a price falls by the manager's decrement where one is given and by the table's where none is, and is marked where one is
  pub round_by : (p : ℕ) → p < a.terms.products → PriceBy a (calculated a draw os).auction (override_for os p) p
  unfolding calculated
  round_by p hp = settled_by_whom a os _ S B O p hp

  -- what is retained is of the lots of this bid where the product ticked, and of those that stood elsewhere
  pub round_lots : (b p : ℕ) → b < a.terms.bidders → p < a.terms.products → LotsAfter a draw (calculated a draw os).auction b p
  unfolding calculated
  round_lots b p hb hp =
      let e = settled_record a os _ S B O b p hb hp in
      record {
        beginning = λ t. rw e (booked_begins a draw S L op D A b p hb hp t);
        of_the_bid = λ t. rw e (beginning_within _ _ _ (booked_begins a draw S L op D A b p hb hp t));
        of_the_record = λ t. rw e (booked_within a draw S L op D A b p hb hp t);
        ordered = rw e (B.exits b p hb hp).order;
      }

  -- ---- the two counts

  abbrev m : ℕ
  m = a.terms.products

  abbrev n : ℕ
  n = a.terms.bidders

  abbrev l2 : List Place
  l2 = (after_step2 a draw).places

  abbrev l3 : List Place
  l3 = deemed_up_to (ticked a) l2 (n * 8)

  abbrev o : Outbid
  o = after_step4 a draw l2

  -- on a product that ticked nothing was kept before, and steps 3 and 4 leave what step 2 kept
  kept_by : (p : ℕ) → p < m → (s : Bool) → ticked a p ≡ s
      → (cond s (column kept_of (accepted_all a) p n) 0 ≡ 0) × (cond s (column kept_of o.places p n) 0 ≡ cond s (column kept_of l2 p n) 0)
  kept_by p hp true e = (made_none a S A p hp e, kept_ticked a draw S L op D A p hp e)
  kept_by p hp false e = (refl, refl)

  -- the count of step 2 is that of the kept tranches now on products that had ticked
  pub round_kept : (calculated a draw os).kept ≡ kept_where_ticked a (calculated a draw os).auction
  unfolding calculated
  round_kept =
      let u = sum_ext (λ p. cond (ticked a p) (column kept_of (accepted_all a) p n) 0) (λ p. 0) m (λ p hp. (kept_by p hp (ticked a p) refl).0) in
      let v = sum_ext (λ p. cond (ticked a p) (kept_on (calculated a draw os).auction p) 0) (λ p. cond (ticked a p) (column kept_of l2 p n) 0) m
      (λ p hp. ap (λ x. cond (ticked a p) x 0) (settled_kept a os o S B O p hp) ∙ (kept_by p hp (ticked a p) refl).1) in
      omega (arith, (kept_end a draw S L op D A).counted, sum_zero m)

  -- step 3 on a product that did not tick: an increase is left exactly where more is then held at the going price
  deemed_here : (b p : ℕ) → b < n → p < m → ticked a p ≡ false
      → kept_of (place_at l3 (b * 8 + p)) + deemed_at a (calculated a draw os).auction b p ≡ kept_in (record_of a b p)
  unfolding calculated
  deemed_here b p hb hp e =
      let z : (b * 8 + p) % 8 ≡ p = omega (arith, S.limits.products) in
      let x = deemed_exact (ticked a) l2 (n * 8) (b * 8 + p) (kept_end a draw S L op D A).keepable.long (omega (arith, S.limits.products))
      ∙ ap (λ s. deem_if s (place_at l2 (b * 8 + p))) (ap (ticked a) z ∙ e) in
      by (ltb 0 (rise_of (place_at l2 (b * 8 + p)))) refl x (ltb (going_in (record_of a b p)) (going_in (record_of (settled a os o) b p))) refl
      (ap going_in (settled_record a os o S B O b p hb hp))
    where
      by : (u : Bool) → ltb 0 (rise_of (place_at l2 (b * 8 + p))) ≡ u
          → place_at l3 (b * 8 + p) ≡ cond u (deem (place_at l2 (b * 8 + p))) (place_at l2 (b * 8 + p))
          → (v : Bool) → ltb (going_in (record_of a b p)) (going_in (record_of (settled a os o) b p)) ≡ v
          → going_in (record_of (settled a os o) b p) ≡ going_in (place_at o.places (b * 8 + p)).holds
          → kept_of (place_at l3 (b * 8 + p)) + cond v (denied_in (record_of a b p)) 0 ≡ kept_in (record_of a b p)
      by true f x true h g =
          let k = ap kept_of x in
          omega (arith, unticked a draw S L op D A b p hb hp e)
      by true f x false h g =
          let k = ap going_of x in
          let r = ltb-true 0 (rise_of (place_at l2 (b * 8 + p))) f in
          let l = ltb-false (going_in (record_of a b p)) (going_in (record_of (settled a os o) b p)) h in
          absurd (let w : ⊥ = omega (arith, trail a draw S L op D A b p hb hp, (A b hb).ticks p hp e) in w)
      by false f x true h g =
          let k = ap going_of x in
          let r = ltb-false 0 (rise_of (place_at l2 (b * 8 + p))) f in
          let l = ltb-true (going_in (record_of a b p)) (going_in (record_of (settled a os o) b p)) h in
          absurd (let w : ⊥ = omega (arith, trail a draw S L op D A b p hb hp, (A b hb).ticks p hp e) in w)
      by false f x false h g =
          let k = ap kept_of x in
          omega (arith, unticked a draw S L op D A b p hb hp e)

  -- what step 3 takes from the kept tranches of one product
  deemed_on : (p : ℕ) → p < m → (s : Bool) → ticked a p ≡ s
      → cond s 0 (column kept_of l3 p n) + cond s 0 (sum_up_to (λ b. deemed_at a (calculated a draw os).auction b p) n) + 0 ≡ cond s 0 (kept_on a p) + 0 + 0
  deemed_on p hp true e = refl
  deemed_on p hp false e =
      let x = sum_six (λ b. kept_of (place_at l3 (b * 8 + p))) (λ b. deemed_at a (calculated a draw os).auction b p) (λ b. 0) (λ b. kept_in (record_of a b p)) (λ b. 0) (λ b. 0) n
      (λ b hb. omega (arith, deemed_here b p hb hp e)) in
      omega (arith, sum_zero n)

  -- the count of step 4 is those kept before on the other products, less those deemed bid in step 3, less those still kept there
  pub round_outbid : CountsOutbid a (calculated a draw os).auction (calculated a draw os).outbid
  unfolding calculated
  round_outbid =
      let x = sum_six (λ p. cond (ticked a p) 0 (column kept_of l3 p n)) (λ p. cond (ticked a p) 0 (sum_up_to (λ b. deemed_at a (calculated a draw os).auction b p) n)) (λ p. 0)
      (λ p. cond (ticked a p) 0 (kept_on a p)) (λ p. 0) (λ p. 0) m (λ p hp. deemed_on p hp (ticked a p) refl) in
      let y = sum_ext (λ p. cond (ticked a p) 0 (kept_on (calculated a draw os).auction p))
      (λ p. cond (ticked a p) 0 (column kept_of o.places p n)) m
      (λ p hp. ap (λ x. cond (ticked a p) 0 x) (settled_kept a os o S B O p hp)) in
      omega (arith, (out_end a draw S L op D A).counted, sum_zero m)
