-- Document 02, request 11: a calculation that leaves the auction quiet has used up denied switches. Assumes nothing.
use mathlib.Core.Path.{◌≡◌, refl, ◌∙◌, ap}
use mathlib.Core.Bool.{Bool, true, false, cond}
use mathlib.Core.Logic.{◌⊎◌, inl, inr}
use mathlib.Core.List.{List}
use Prim.Native.Nat.{ℕ, ◌+◌, ◌*◌, ◌%◌, ◌≤◌, ◌<◌}
use native.Mathlib.Omega.{arith}
use borrow.Author.Tests.{eqb-true, eqb-false, ltb-true, ltb-false, leb-true, leb-false, le-ltb}
use lib.ListN.{get_or-replicate}
use lib.Dec.{eqb, ltb, leb}
use Rattle.std.specs.Prelude.{Option, None, Some}
use Rattle.rules.specs.Price.{Override}
use Rattle.rules.specs.declared.Place.{Place}
use Rattle.rules.specs.declared.Outbid.{Outbid}
use Rattle.rules.specs.declared.Auction.{Auction}
use Rattle.rules.specs.Count.{sum_up_to, first_up_to, never}
use Rattle.rules.specs.Units.{tranches}
use Rattle.rules.specs.Answers.{closed, stopped}
use Rattle.rules.specs.Settings.{setup, target_of}
use Rattle.rules.specs.Held.{denied_in, held_in, held, above_zero, standing_of, ticked, free_of}
use Rattle.rules.specs.Bid.{record_of}
use Rattle.rules.specs.Accept.{place_at}
use Rattle.rules.specs.Outbid.{deemed_up_to}
use Rattle.rules.specs.Round.{draw_fits, overrides_fit, after_step2, after_step4, calculated}
use Rattle.rules.specs.Legal.{kept_on, is_open}
use Rattle.rules.specs.Stands.{Stands, Long}
use Rattle.rules.proofs.Sums.{sum_ext, sum_le, sum_six, sum_add, sum_zero, sum_swap, sum_tight, best_found, best_none}
use Rattle.rules.proofs.Signed.{above_zero_lem, above_is}
use Rattle.rules.proofs.Tests.{told}
use Rattle.rules.proofs.Legal.{first_none, later_excess, second_none}
use Rattle.rules.proofs.Places.{denied_of, worth_of}
use Rattle.laws.specs.Quiet.{Quiet, denied_on, denied_standing, denied_elsewhere, FreedFrom, Moves, volume}
use Rattle.laws.proofs.Made.{AllAccepted}
use Rattle.laws.proofs.Booked.{deem_end, out_end, unticked, booked}
use Rattle.laws.proofs.Settled.{settled_record, settled_free, settled_round}
use Rattle.laws.proofs.Round.{round_setup, round_stands, round_prices}

-- ---- where denied switches stand

module _ (a : Auction) (S : Stands a) where
  denied_kept : (p : ℕ) → denied_on a p ≤ kept_on a p
  denied_kept p = sum_le _ _ a.terms.bidders (λ b _. omega arith)

  -- only where held equals target: no more than the target
  pub denied_within : (p : ℕ) → p < a.terms.products → denied_on a p ≤ target_of (setup a) p
  denied_within p hp = by (ltb 0 (kept_on a p)) refl
    where
      by : (t : Bool) → ltb 0 (kept_on a p) ≡ t → denied_on a p ≤ target_of (setup a) p
      by true e =
          let h = sum_le (λ b. denied_in (record_of a b p)) (λ b. held_in (record_of a b p)) a.terms.bidders (λ b _. omega arith) in
          omega (arith, S.kept p hp (ltb-true 0 (kept_on a p) e))
      by false e = omega (arith, denied_kept p, ltb-false 0 (kept_on a p) e)

  module _ (o : is_open a ≡ true) where
    none_early : (p : ℕ) → p < a.terms.products → a.round ≤ 2 → (t : Bool) → eqb a.round 1 ≡ t → denied_on a p ≡ 0
    none_early p hp l true e =
        sum_ext (λ b. denied_in (record_of a b p)) (λ b. 0) a.terms.bidders (λ b hb.
        let z = first_none a S o (eqb-true _ _ e) (b * 8 + p) (omega (arith, S.limits.products, S.limits.bidders)) in search told)
        ∙ sum_zero a.terms.bidders
    none_early p hp l false e =
        let d = eqb-false a.round 1 e in
        let k = second_none a S o (omega (arith, d, S.some_round)) p hp in
        omega (arith, denied_kept p)

    -- from round 3 on: in round 1 nothing is held, and in round 2 nothing is kept
    pub denied_late : 0 < denied_standing a → 3 ≤ a.round
    denied_late h = by (leb 3 a.round) refl
      where
        by : (t : Bool) → leb 3 a.round ≡ t → 3 ≤ a.round
        by true e = leb-true 3 a.round e
        by false e =
            let l = leb-false 3 a.round e in
            let z = sum_ext (denied_on a) (λ p. 0) a.terms.products (λ p hp. none_early p hp (omega arith) (eqb a.round 1) refl) in
            absurd (let x : ⊥ = omega (arith, sum_zero a.terms.products) in x)

-- ---- one calculation

module _ (a : Auction) (draw : List ℕ) (os : List Override) (S : Stands a) (L : Long a) (op : is_open a ≡ true)
    (D : draw_fits a.terms.bidders draw ≡ true) (O : overrides_fit os ≡ true) (A : AllAccepted a) where
  abbrev m : ℕ
  m = a.terms.products

  abbrev n : ℕ
  n = a.terms.bidders

  abbrev l2 : List Place
  l2 = (after_step2 a draw).places

  abbrev l3 : List Place
  l3 = deemed_up_to (ticked a) l2 (n * 8)

  abbrev o : Outbid
  o = after_step4 a draw l2

  abbrev l4 : List Place
  l4 = o.places

  abbrev z : Auction
  z = (calculated a draw os).auction

  -- step 4 of one place: what is denied no longer is worth less, and only on a product that had not ticked
  outbid_at : (b p : ℕ) → b < n → p < m → (t : Bool) → ticked a p ≡ t
      → worth_of (place_at l3 (b * 8 + p)) + cond t 0 (denied_of (place_at l4 (b * 8 + p))) + 0
      ≡ worth_of (place_at l4 (b * 8 + p)) + cond t 0 (denied_of (place_at l3 (b * 8 + p))) + 0
  outbid_at b p hb hp true e =
      let q : (b * 8 + p) % 8 ≡ p = omega (arith, S.limits.products) in
      let x = ap worth_of ((out_end a draw S L op D A).same (b * 8 + p) (ap (ticked a) q ∙ e)) in
      omega arith
  outbid_at b p hb hp false e = omega (arith, (out_end a draw S L op D A).outed (b * 8 + p))

  -- before it no more is denied there than before the round
  denied_at : (b p : ℕ) → b < n → p < m → (t : Bool) → ticked a p ≡ t
      → cond t 0 (denied_of (place_at l3 (b * 8 + p))) ≤ cond t 0 (denied_in (record_of a b p))
  denied_at b p hb hp true e = omega arith
  denied_at b p hb hp false e = omega (arith, deem_end a draw S L op D A (b * 8 + p), unticked a draw S L op D A b p hb hp e)

  -- what a bidder has free after the round were denied switches of its own
  pub round_freed : (b : ℕ) → b < a.terms.bidders → FreedFrom a (calculated a draw os).auction b
  unfolding calculated
  round_freed b hb =
      let h : b < 32 = omega (arith, S.limits.bidders) in
      let none = ap (λ f. f.0) (get_or-replicate 32 b (tranches 0) (tranches 0) h) in
      let B = booked a draw S L op D A in
      let r = sum_ext (λ p. cond (ticked a p) 0 (denied_in (record_of z b p))) (λ p. cond (ticked a p) 0 (denied_of (place_at l4 (b * 8 + p)))) m
      (λ p hp. ap (λ r. cond (ticked a p) 0 (denied_in r)) (settled_record a os o S B O b p hb hp)) in
      let w = sum_six (λ p. worth_of (place_at l3 (b * 8 + p))) (λ p. cond (ticked a p) 0 (denied_of (place_at l4 (b * 8 + p)))) (λ p. 0)
      (λ p. worth_of (place_at l4 (b * 8 + p))) (λ p. cond (ticked a p) 0 (denied_of (place_at l3 (b * 8 + p)))) (λ p. 0) m
      (λ p hp. outbid_at b p hb hp (ticked a p) refl) in
      let d = sum_le (λ p. cond (ticked a p) 0 (denied_of (place_at l3 (b * 8 + p)))) (λ p. cond (ticked a p) 0 (denied_in (record_of a b p))) m
      (λ p hp. denied_at b p hb hp (ticked a p) refl) in
      omega (arith, (out_end a draw S L op D A).worth b, settled_free a os o S B O b h)

  -- the denied switches that stand on product p after the round; and of such numbers the sum over the products that had not ticked
  abbrev has : ℕ → ℕ
  has p = sum_up_to (λ b. denied_in (record_of z b p)) n

  abbrev elsewhere : (ℕ → ℕ) → ℕ
  elsewhere d = sum_up_to (λ p. cond (ticked a p) 0 (d p)) m

  elsewhere_is : (x : Auction) → sum_up_to (denied_elsewhere a x) n ≡ elsewhere (λ p. sum_up_to (λ b. denied_in (record_of x b p)) n)
  elsewhere_is x =
      sum_swap (λ b p. cond (ticked a p) 0 (denied_in (record_of x b p))) n m
      ∙ sum_ext _ (λ p. cond (ticked a p) 0 (sum_up_to (λ b. denied_in (record_of x b p)) n)) m (λ p _. by p (ticked a p))
    where
      by : (p : ℕ) (t : Bool) → sum_up_to (λ b. cond t 0 (denied_in (record_of x b p))) n ≡ cond t 0 (sum_up_to (λ b. denied_in (record_of x b p)) n)
      by p true = sum_zero n
      by p false = refl

  -- and so of all bidders
  freed : elsewhere has + sum_up_to (free_of z) n ≤ elsewhere (denied_on a)
  freed =
      let x = sum_le (λ b. denied_elsewhere a z b + free_of z b) (denied_elsewhere a a) n (λ b hb. omega (arith, round_freed b hb)) in
      omega (arith, sum_add (denied_elsewhere a z) (free_of z) n, elsewhere_is z, elsewhere_is a)

  -- ---- what it leaves

  stays : setup z ≡ setup a
  stays = round_setup a draw os S L op D O A

  products_stay : z.terms.products ≡ m
  products_stay = ap (λ t. t.terms.products) stays

  bidders_stay : z.terms.bidders ≡ n
  bidders_stay = ap (λ t. t.terms.bidders) stays

  z_stands : Stands z
  z_stands = round_stands a draw os S L op D O A

  -- "and the next round opens", where the auction does not end
  pub round_after : (calculated a draw os).auction.round ≡ cond (is_open (calculated a draw os).auction) (a.round + 1) a.round
  unfolding calculated
  round_after = settled_round a os o S (booked a draw S L op D A) O

  -- what is open is in excess: with no product above target, by free eligibility
  quiet_free : Quiet z → 0 < sum_up_to (free_of z) n
  quiet_free q =
      let e = later_excess z z_stands q.bidding (λ r. let g = rw q.bidding at round_after in omega (arith, S.some_round)) in
      let x = sum_ext (λ p. above_zero (standing_of z p)) (λ p. 0) z.terms.products (λ p hp.
      omega (arith, above_zero_lem (held z.records z.terms.bidders p) (target_of (setup z) p), q.none_above p hp)) in
      let f = ap (sum_up_to (free_of z)) bidders_stay in
      omega (arith, sum_zero z.terms.products)

  denied_is : denied_standing z ≡ sum_up_to has m
  denied_is = ap (λ t. sum_up_to (λ p. sum_up_to (λ b. denied_in (record_of z b p)) t.terms.bidders) t.terms.products) stays

  -- a calculation leaves the auction quiet only where a denied switch stood
  pub quiet_before : Quiet (calculated a draw os).auction → 0 < denied_standing a
  quiet_before q =
      let l = sum_le (λ p. cond (ticked a p) 0 (denied_on a p)) (denied_on a) m (λ p _. by p (ticked a p)) in
      omega (arith, quiet_free q, freed)
    where
      by : (p : ℕ) (t : Bool) → cond t 0 (denied_on a p) ≤ denied_on a p
      by p true = omega arith
      by p false = omega arith

  -- and where it was quiet before, one at least stands no longer
  pub quiet_fewer : Quiet a → Quiet (calculated a draw os).auction → denied_standing (calculated a draw os).auction + 1 ≤ denied_standing a
  quiet_fewer q r = omega (arith, quiet_free r, freed, denied_is, all has, all (denied_on a))
    where
      all : (d : ℕ → ℕ) → elsewhere d ≡ sum_up_to d m
      all d =
          sum_ext (λ p. cond (ticked a p) 0 (d p)) d m (λ p hp.
          ap (λ t. cond t 0 (d p)) (above_is (held a.records n p) (target_of (setup a) p) ∙ le-ltb _ _ (q.none_above p hp)))

  -- however it was before: were every tranche wanted a denied switch after it, none would have been outbid
  pub quiet_volume : Quiet (calculated a draw os).auction → denied_standing (calculated a draw os).auction + 1 ≤ volume (setup a)
  quiet_volume q = by (ltb (denied_standing z) (volume (setup a))) refl
    where
      most : (p : ℕ) → p < m → has p ≤ target_of (setup a) p
      most p hp =
          let g = ap (λ t. target_of t p) stays in
          let h = ap (sum_up_to (λ b. denied_in (record_of z b p))) bidders_stay in
          omega (arith, denied_within z z_stands p (omega (arith, products_stay)))

      less : ((p : ℕ) → p < m → target_of (setup a) p ≤ has p) → (p : ℕ) → p < m → (t : Bool) → cond t 0 (denied_on a p) ≤ cond t 0 (has p)
      less full p hp true = omega arith
      less full p hp false = omega (arith, full p hp, denied_within a S p hp)

      by : (t : Bool) → ltb (denied_standing z) (volume (setup a)) ≡ t → denied_standing z + 1 ≤ volume (setup a)
      by true e = omega (arith, ltb-true (denied_standing z) (volume (setup a)) e)
      by false e =
          let l = ltb-false (denied_standing z) (volume (setup a)) e in
          let u = sum_le has (target_of (setup a)) m most in
          let full = sum_tight has (target_of (setup a)) m most (omega (arith, denied_is)) in
          let x = sum_le (λ p. cond (ticked a p) 0 (denied_on a p)) (λ p. cond (ticked a p) 0 (has p)) m (λ p hp. less full p hp (ticked a p)) in
          absurd (let w : ⊥ = omega (arith, quiet_free q, freed) in w)

  -- ---- every calculation lowers a price, ends the auction or leaves it quiet

  abbrev over : ℕ → Bool
  over p = ltb (target_of (setup a) p) (held z.records n p)

  open_by : is_open z ≡ true → (r : Option ℕ) → first_up_to over m ≡ r → Moves a z ⊎ Quiet z
  open_by e (Some p) f =
      let g = best_found over never m p f in
      inl (inl (p, g.0, ((round_prices a draw os S L op D O A p g.0).fell e (ltb-true _ _ g.1)).0))
  open_by e None f =
      inr (record {
        bidding = e;
        none_above = λ p hp.
            let g = ap (λ t. target_of t p) stays in
            let h = ap (λ k. held z.records k p) bidders_stay in
            let l = ltb-false (target_of (setup a) p) (held z.records n p) (best_none over never m f p (omega (arith, products_stay))) in
            omega arith;
      })

  ended_by : is_open z ≡ false → (t : Bool) → eqb z.phase closed ≡ t → (z.phase ≡ closed) ⊎ (z.phase ≡ stopped)
  ended_by e true f = inl (eqb-true z.phase closed f)
  ended_by e false f = let x = rw (e, f) at z_stands.phase in inr (search told)

  moves_by : (t : Bool) → is_open z ≡ t → Moves a z ⊎ Quiet z
  moves_by true e = open_by e (first_up_to over m) refl
  moves_by false e = inl (inr (ended_by e (eqb z.phase closed) refl))

  pub moves_or_quiet : Moves a (calculated a draw os).auction ⊎ Quiet (calculated a draw os).auction
  moves_or_quiet = moves_by (is_open z) refl
