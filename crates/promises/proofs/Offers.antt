-- What is held had been offered, and at no more than the price paid. Assumes nothing.
use mathlib.Core.Path.{◌≡◌, refl, sym, ◌∙◌, ap, subst}
use mathlib.Core.Bool.{Bool, true, false, ◌&&◌, cond}
use mathlib.Core.List.{List}
use Prim.Native.Nat.{ℕ, zero, suc, ◌+◌, ◌*◌, ◌%◌, ◌≤◌, ◌<◌}
use native.Mathlib.Omega.{arith}
use borrow.Author.Tests.{eqb-true, ltb-true, ltb-false}
use lib.Dec.{eqb, ltb}
use Rattle.rules.specs.Price.{Override}
use Rattle.rules.specs.declared.Lot.{Lot}
use Rattle.rules.specs.declared.Tranches.{Tranches}
use Rattle.rules.specs.declared.Place.{Place}
use Rattle.rules.specs.declared.Auction.{Auction}
use Rattle.rules.specs.Answers.{closed}
use Rattle.rules.specs.Settings.{setup, target_of}
use Rattle.rules.specs.Lots.{count_of, lot_at, total, Within, AllWithin}
use Rattle.rules.specs.Held.{going_in, denied_in, retained_in, held, standing_of, above_zero, ticked, free_of, excess}
use Rattle.rules.specs.Bid.{withdrawn_in, record_of, price_at, before_at, bid_on}
use Rattle.rules.specs.Accept.{place_at, kept_of, deem}
use Rattle.rules.specs.Outbid.{deem_if, deemed_up_to}
use Rattle.rules.specs.Round.{draw_fits, overrides_fit, after_step2, after_step4, calculated}
use Rattle.rules.specs.Report.{paid_on}
use Rattle.rules.specs.Cutback.{may_cut, revised, cut_back}
use Rattle.rules.specs.Legal.{is_open, open_stands}
use Rattle.rules.specs.Stands.{Stands, Long}
use Rattle.rules.proofs.Sums.{sum_ge, and_right}
use Rattle.rules.proofs.LotLaws.{within_trans}
use Rattle.rules.proofs.Signed.{above_zero_lem}
use Rattle.rules.proofs.Places.{going_of, denied_of}
use Rattle.laws.proofs.Outbidding.{deemed_exact}
use Rattle.laws.proofs.Made.{AllAccepted}
use Rattle.laws.proofs.Booked.{Booked, kept_end, trail, unticked, fresh, booked}
use Rattle.laws.proofs.Settled.{settled_held, settled_record}
use Rattle.laws.proofs.Round.{round_setup, round_prices, round_lots}
use Rattle.laws.proofs.Cutback.{cut_only, cut_price}
use Rattle.promises.specs.Runs.{Round}
use Rattle.promises.specs.Offered.{OnOffer, increase_left, offering_by, offering}
use Rattle.promises.specs.Demands.{LotOffered}
use Rattle.promises.proofs.Paid.{paid_going, paid_denied, paid_retained}

-- what bidder b holds of product p in the auction a is on offer in o
pub record Backed (o : OnOffer) (a : Auction) (b p : ℕ) : Type 0 where
  pub going : going_in (record_of a b p) ≤ o.bid
  pub denied : denied_in (record_of a b p) ≤ o.switched
  pub lots : AllWithin o.exits (record_of a b p).retained
  pub own : o.bid + o.switched + total o.exits ≤ o.ever
  pub price : 0 < going_in (record_of a b p)
      → (o.price ≤ before_at a p) × (held a.records a.terms.bidders p ≤ target_of (setup a) p → o.price ≤ price_at a p)
  pub before : 0 < denied_in (record_of a b p) → o.before ≤ before_at a p

-- ---- one round

module _ (a : Auction) (draw : List ℕ) (os : List Override) (S : Stands a) (L : Long a) (op : is_open a ≡ true)
    (D : draw_fits a.terms.bidders draw ≡ true) (O : overrides_fit os ≡ true) (A : AllAccepted a)
    (b p : ℕ) (hb : b < a.terms.bidders) (hp : p < a.terms.products) where
  abbrev r : Round
  r = record { auction = a; draw = draw; overrides = os }

  abbrev n : ℕ
  n = a.terms.bidders

  abbrev z : Auction
  z = (calculated a draw os).auction

  abbrev at2 : Place
  at2 = place_at (after_step2 a draw).places (b * 8 + p)

  abbrev at3 : Place
  at3 = place_at (deemed_up_to (ticked a) (after_step2 a draw).places (n * 8)) (b * 8 + p)

  abbrev at4 : Place
  at4 = place_at (after_step4 a draw (after_step2 a draw).places).places (b * 8 + p)

  B : Booked a (after_step4 a draw (after_step2 a draw).places)
  B = booked a draw S L op D A

  record_is : record_of z b p ≡ at4.holds
  unfolding calculated
  record_is = settled_record a os _ S B O b p hb hp

  -- what is then retained was retained before or is withdrawn in this round
  pub round_retained : retained_in (record_of (calculated a draw os).auction b p) ≤ retained_in (record_of a b p) + withdrawn_in (bid_on a b p)
  round_retained = let e = ap retained_in record_is in omega (arith, trail a draw S L op D A b p hb hp)

  -- step 3 at this place
  deemed_is : at3 ≡ deem_if (ticked a p) at2
  deemed_is =
      let e : (b * 8 + p) % 8 ≡ p = omega (arith, S.limits.products) in
      deemed_exact (ticked a) (after_step2 a draw).places (n * 8) (b * 8 + p) (kept_end a draw S L op D A).keepable.long
      (omega (arith, S.limits.products))
      ∙ ap (λ q. deem_if (ticked a q) at2) e

  -- what is kept at the end is kept where held equals target
  met : 0 < kept_of at4 → held z.records n p ≡ target_of (setup a) p
  unfolding calculated
  met h =
      let x = sum_ge (λ b. kept_of (place_at (after_step4 a draw (after_step2 a draw).places).places (b * 8 + p))) n b hb in
      settled_held a os _ S B O p hp ∙ (B.kept p hp (omega arith)).1

  -- this round's price is at most the next price before, and the next price where the product is not above target
  price_for : (s u : Bool) → is_open z ≡ s → ltb (target_of (setup a) p) (held z.records n p) ≡ u
      → (price_at a p ≤ before_at z p) × (held z.records n p ≤ target_of (setup a) p → price_at a p ≤ price_at z p)
  price_for false u e f =
      let x = (round_prices a draw os S L op D O A p hp).ended e in
      let y = S.prices p hp in
      (omega (arith, x, y), λ h. omega (arith, x))
  price_for true true e f =
      let l = ltb-true _ _ f in
      let x = (round_prices a draw os S L op D O A p hp).fell e l in
      (omega (arith, x), λ h. absurd (let w : ⊥ = omega arith in w))
  price_for true false e f =
      let x = (round_prices a draw os S L op D O A p hp).stayed e (ltb-false _ _ f) in
      let y = S.prices p hp in
      (omega (arith, x, y), λ h. omega (arith, x))

  -- where held equals target the price before stays
  before_for : held z.records n p ≡ target_of (setup a) p → (s : Bool) → is_open z ≡ s → before_at z p ≡ before_at a p
  before_for h true e = ((round_prices a draw os S L op D O A p hp).stayed e (omega arith)).1
  before_for h false e = ((round_prices a draw os S L op D O A p hp).ended e).1

  module _ (o : OnOffer) (K : Backed o a b p) where
    -- what the steps leave at this place
    pub record Left (v : OnOffer) : Type 0 where
      pub going : going_in at4.holds ≤ v.bid
      pub denied : denied_in at4.holds ≤ v.switched
      pub lots : AllWithin v.exits (record_of z b p).retained
      pub own : v.bid + v.switched + total v.exits ≤ v.ever
      pub price : v.price ≡ price_at a p
      pub before : 0 < denied_in at4.holds → v.before ≤ before_at a p

    left_by : (s u : Bool) → ticked a p ≡ s → increase_left r b p ≡ u → at3 ≡ deem_if s at2
        → Left (offering_by r b p s u o)
    left_by true u e f d =
        let T = trail a draw S L op D A b p hb hp in
        let F = fresh a draw S L op D A b p hb hp e in
        let g = ap going_of d in
        let k = ap denied_of d in
        record {
          going = omega arith;
          denied = omega (arith, K.going);
          lots = (round_lots a draw os S L op D O A b p hb hp).of_the_bid e;
          own = omega (arith, K.going, K.own);
          price = omega arith;
          before = λ h. omega (arith, K.price (omega arith), S.prices p hp);
        }
    left_by false true e f d =
        let T = trail a draw S L op D A b p hb hp in
        let U = unticked a draw S L op D A b p hb hp e in
        let h = d ∙ ap (λ t. cond t (deem at2) at2) f in
        let g = ap going_of h in
        let k = ap denied_of h in
        record {
          going = omega (arith, K.denied);
          denied = omega arith;
          lots = within_trans _ _ _ K.lots ((round_lots a draw os S L op D O A b p hb hp).of_the_record e);
          own = omega (arith, K.own);
          price = omega arith;
          before = λ h. absurd (let w : ⊥ = omega arith in w);
        }
    left_by false false e f d =
        let T = trail a draw S L op D A b p hb hp in
        let U = unticked a draw S L op D A b p hb hp e in
        let h = d ∙ ap (λ t. cond t (deem at2) at2) f in
        let g = ap going_of h in
        let k = ap denied_of h in
        record {
          going = omega arith;
          denied = omega (arith, K.denied);
          lots = within_trans _ _ _ K.lots ((round_lots a draw os S L op D O A b p hb hp).of_the_record e);
          own = omega (arith, K.own);
          price = omega arith;
          before = λ h. K.before (omega arith);
        }

    -- a round carries it on
    pub round_backed : Backed (offering (record { auction = a; draw = draw; overrides = os }) b p o) (calculated a draw os).auction b p
    round_backed =
        let X = left_by (ticked a p) (increase_left r b p) refl refl deemed_is in
        let t = round_setup a draw os S L op D O A in
        let g = ap going_in record_is in
        let d = ap denied_in record_is in
        let k = ap (λ u. held z.records u.terms.bidders p) t in
        let u = ap (λ u. target_of u p) t in
        let v = price_for (is_open z) (ltb (target_of (setup a) p) (held z.records n p)) refl refl in
        record {
          going = omega (arith, X.going);
          denied = omega (arith, X.denied);
          lots = X.lots;
          own = X.own;
          price = λ h. rw X.price (v.0, λ l. v.1 (omega arith));
          before = λ h. let w = before_for (met (omega arith)) (is_open z) refl in omega (arith, X.before (omega arith));
        }

-- ---- a cutback: an offer before it counts

module _ (a : Auction) (targets caps : List Tranches) (S : Stands a) (op : is_open a ≡ true) (M : may_cut a targets caps ≡ true)
    (b p : ℕ) (hb : b < a.terms.bidders) (hp : p < a.terms.products) (o : OnOffer) (K : Backed o a b p) where
  abbrev cut : Auction
  cut = cut_back a targets caps

  -- q is the starting price, and p too where the product is not above its revised target
  start_for : (s : Bool) → is_open cut ≡ s → held cut.records cut.terms.bidders p ≤ target_of (setup cut) p
      → price_at cut p ≡ before_at cut p
  unfolding revised
  start_for true e h =
      let P = cut_price a targets caps S op M p hp in
      let n = ap (λ t. held cut.records t.terms.bidders p) (cut_only a targets caps S op M).settings in
      P.stayed e (omega arith) ∙ sym P.before
  start_for false e h = let P = cut_price a targets caps S op M p hp in P.ended e ∙ sym P.before

  pub cut_backed : Backed o (cut_back a targets caps) b p
  cut_backed =
      let C = cut_only a targets caps S op M in
      let P = cut_price a targets caps S op M p hp in
      let hb8 : b < 32 = omega (arith, S.limits.bidders) in
      let hp8 : p < 8 = omega (arith, S.limits.products) in
      let g = C.going b p hb8 hp8 in
      let d = C.denied b p hb8 hp8 in
      record {
        going = omega (arith, K.going);
        denied = omega (arith, K.denied);
        lots = rw (C.retained b p hb8 hp8) K.lots;
        own = K.own;
        price = λ h.
            let x = K.price (omega arith) in
            let y = S.prices p hp in
            (omega (arith, x, y, P.before), λ l. omega (arith, x, y, P.before, start_for (is_open cut) refl l));
        before = λ h. let x = K.before (omega arith) in let y = S.prices p hp in omega (arith, y, P.before);
      }

-- ---- a closed auction

closed_by : (x : ℕ) (u f e g : Bool) → x ≡ closed → cond (eqb x 1) u (f && cond (eqb x closed) e g) ≡ true → e ≡ true
closed_by x u f e g q t =
    and_right f e (subst (λ x. cond (eqb x 1) u (f && cond (eqb x closed) e g) ≡ true) q t)

module _ (a : Auction) (S : Stands a) where
  -- a closed auction holds no more than the target of any product
  pub closed_within : a.phase ≡ closed → (p : ℕ) → p < a.terms.products
      → held a.records a.terms.bidders p ≤ target_of (setup a) p
  closed_within c p hp =
      let e = eqb-true (excess a) 0 (closed_by a.phase (open_stands a) (eqb a.cards.filed 0) (eqb (excess a) 0) _ c S.phase) in
      let x = sum_ge (λ p. above_zero (standing_of a p)) a.terms.products p hp in
      omega (arith, above_zero_lem (held a.records a.terms.bidders p) (target_of (setup a) p))

  -- nor any free eligibility
  pub closed_free : a.phase ≡ closed → (b : ℕ) → b < a.terms.bidders → free_of a b ≡ 0
  closed_free c b hb =
      let e = eqb-true (excess a) 0 (closed_by a.phase (open_stands a) (eqb a.cards.filed 0) (eqb (excess a) 0) _ c S.phase) in
      omega (arith, sum_ge (free_of a) a.terms.bidders b hb)

-- ---- an award

-- its parts at no more than the price paid
module _ (a : Auction) (S : Stands a) (c : a.phase ≡ closed) (b p : ℕ) (hb : b < a.terms.bidders) (hp : p < a.terms.products)
    (o : OnOffer) (K : Backed o a b p) where
  pub going_paid : 0 < going_in (record_of a b p) → o.price ≤ paid_on a p
  going_paid h = omega (arith, (K.price h).1 (closed_within a S c p hp), paid_going a S b p hb hp h)

  pub denied_paid : 0 < denied_in (record_of a b p) → o.before ≤ paid_on a p
  denied_paid h = omega (arith, K.before h, paid_denied a S b p hb hp h)

  -- and each retained lot, of its own lot of the offer
  lot_offered : (x r : Lot) → Within x r → (0 < count_of r → r.exit ≤ paid_on a p) → LotOffered x r (paid_on a p)
  lot_offered x r w h =
      record { few = w.few; own_price = w.price; exit_paid = λ l. omega (arith, w.price l, h l) }

  pub retained_offered : (i : ℕ) → i < 4 → LotOffered (lot_at o.exits i) (lot_at (record_of a b p).retained i) (paid_on a p)
  retained_offered zero l = lot_offered _ _ K.lots.one (paid_retained a S b p hb hp 0 l)
  retained_offered (suc zero) l = lot_offered _ _ K.lots.two (paid_retained a S b p hb hp 1 l)
  retained_offered (suc (suc zero)) l = lot_offered _ _ K.lots.three (paid_retained a S b p hb hp 2 l)
  retained_offered (suc (suc (suc zero))) l = lot_offered _ _ K.lots.four (paid_retained a S b p hb hp 3 l)
  retained_offered (suc (suc (suc (suc i)))) l = absurd (let x : ⊥ = omega arith in x)
