-- Document 02, request 10: rank favours no product. "Prove that it and the box's own engine leave equal records and equal kept counts for every
-- order." Assumes nothing.
use mathlib.Core.Path.{◌≡◌, refl, sym, ◌∙◌, ap}
use mathlib.Core.Bool.{true, false}
use mathlib.Core.List.{List, [], ◌∷◌, map}
use Prim.Native.Nat.{ℕ, zero, suc, ◌+◌, ◌*◌}
use borrow.Author.Tests.{ne_eqb}
use Rattle.std.specs.Prelude.{Err}
use Rattle.rules.specs.Price.{Override}
use Rattle.rules.specs.declared.Place.{Place}
use Rattle.rules.specs.declared.Auction.{Auction}
use Rattle.rules.specs.Answers.{outcome, first_number, refusal_of}
use Rattle.rules.specs.Settings.{setup, target_of}
use Rattle.rules.specs.Held.{ticked}
use Rattle.rules.specs.Accept.{place_at, accepted_all}
use Rattle.rules.specs.Keep.{kept}
use Rattle.rules.specs.Round.{drawn, draw_fits, order_fits, after_step2, plain_step2, calculated, calculated_plain}
use Rattle.rules.specs.Layout.{loaded}
use Rattle.rules.specs.Legal.{is_open}
use Rattle.rules.specs.Calls.{calculate_number, calculate_call, order_number, plain_call}
use Rattle.rules.specs.Stands.{Stands}
use Rattle.rules.specs.Uses.{Call, opens, files, counts, calculates, calculates_plain, cuts, reports, results, reads, writes, suggests, after}
use Rattle.rules.proofs.Plain.{own_run, any_way}
use Rattle.laws.proofs.Bids.{bids_accepted}
use Rattle.laws.proofs.Draw.{draw_range, draw_reach}
use Rattle.laws.proofs.Made.{keepable}
use Rattle.laws.proofs.Plain.{plain_step, plain_calculated, plain_call_lem}
use Rattle.promises.specs.Runs.{run}
use Rattle.promises.specs.Rank.{AnyWay, by_rank, Fits, AllFit}

-- ---- step 2 of a standing auction with bids open

module _ (a : Auction) (S : Stands a) (o : is_open a ≡ true) (draw : List ℕ) (D : draw_fits a.terms.bidders draw ≡ true) where
  -- whichever short product is taken first, and whichever next: the same 256 places, and the same count
  pub same_way : (k : ℕ) (qs : List Place) → AnyWay a draw k qs → kept qs k ≡ after_step2 a draw
  same_way k qs W =
      any_way a.terms.products a.terms.bidders (target_of (setup a)) (ticked a) (drawn draw) S.limits.products
      (draw_range a.terms.bidders draw D) (draw_reach a.terms.bidders draw D) (accepted_all a) (keepable a S (bids_accepted a S o))
      W.steps W.ends

  -- the box's own engine, the first in rank each time, is one such way
  pub own_way : AnyWay a draw (after_step2 a draw).count (after_step2 a draw).places
  own_way =
      let r = own_run a.terms.products a.terms.bidders (target_of (setup a)) (ticked a) (drawn draw) S.limits.products
      (draw_range a.terms.bidders draw D) (draw_reach a.terms.bidders draw D) (accepted_all a) (keepable a S (bids_accepted a S o)) in
      record { steps = r.0; ends = r.1 }

  module _ (order : List ℕ) (O : order_fits a.terms.products order ≡ true) where
    -- "equal records and equal kept counts for every order"
    pub equal_records : (b p : ℕ)
        → (place_at (plain_step2 a draw order).places (b * 8 + p)).holds ≡ (place_at (after_step2 a draw).places (b * 8 + p)).holds
    equal_records b p = ap (λ k. (place_at k.places (b * 8 + p)).holds) (plain_step a S o draw D order O)

    pub equal_counts : (plain_step2 a draw order).count ≡ (after_step2 a draw).count
    equal_counts = ap (λ k. k.count) (plain_step a S o draw D order O)

    -- and whatever else a place has: withdrawals, switches and increases that are left
    pub equal_step : plain_step2 a draw order ≡ after_step2 a draw
    equal_step = plain_step a S o draw D order O

    -- so the auction after the round is the same, whatever the overrides
    pub equal_round : (os : List Override) → calculated_plain a draw os order ≡ calculated a draw os
    equal_round = plain_calculated a S o draw D order O

-- ---- the call, on any bytes

module _ (s draw : List ℕ) (os : List Override) where
  -- "the same in answer and every byte", for every order that fits
  pub equal_call : (order : List ℕ) → order_fits (loaded s).terms.products order ≡ true → plain_call s draw os order ≡ calculate_call s draw os
  equal_call order O = plain_call_lem s draw os order O

  -- and so for any two
  pub two_orders : (x y : List ℕ) → order_fits (loaded s).terms.products x ≡ true → order_fits (loaded s).terms.products y ≡ true
      → plain_call s draw os x ≡ plain_call s draw os y
  two_orders x y X Y = equal_call x X ∙ sym (equal_call y Y)

  -- what calculate refuses is refused with its number, whatever the order
  pub refused_first : (order : List ℕ) → (calculate_number s draw os ≡ 0 → ⊥) → plain_call s draw os order ≡ calculate_call s draw os
  unfolding plain_call calculate_call
  refused_first order h =
      rw (first_of_lem (calculate_number s draw os) (order_number order (loaded s)) h, ne_eqb (calculate_number s draw os) 0 h)
    where
      first_of_lem : (n k : ℕ) → (n ≡ 0 → ⊥) → first_number n k ≡ n
      first_of_lem zero k h = absurd (h refl)
      first_of_lem (suc n) k h = refl

  -- otherwise an order that does not fit is answered 23, and nothing is changed
  pub unfit_order : (order : List ℕ) → calculate_number s draw os ≡ 0 → order_fits (loaded s).terms.products order ≡ false
      → plain_call s draw os order ≡ outcome (Err (refusal_of 23)) s
  unfolding plain_call
  unfit_order order e f = rw (e, f)

-- ---- a whole auction

fits_after_lem : (s : List ℕ) (c : Call) → Fits s c → after s c ≡ after s (by_rank c)
fits_after_lem s (opens x) h = refl
fits_after_lem s (files c) h = refl
fits_after_lem s counts h = refl
fits_after_lem s (calculates draw os) h = refl
fits_after_lem s (calculates_plain draw os order) h = ap (λ o. o.bytes) (equal_call s draw os order h)
fits_after_lem s (cuts targets caps) h = refl
fits_after_lem s (reports b) h = refl
fits_after_lem s results h = refl
fits_after_lem s (reads c n) h = refl
fits_after_lem s (writes room n b r ls) h = refl
fits_after_lem s (suggests bid ratio) h = refl

-- rounds calculated in any orders that fit, or by rank: from any bytes, the same bytes at the end
pub equal_auction : (s : List ℕ) (cs : List Call) → AllFit s cs → run s cs ≡ run s (map by_rank cs)
equal_auction s [] h = refl
equal_auction s (c ∷ cs) h =
    equal_auction (after s c) cs h.1 ∙ ap (λ t. run t (map by_rank cs)) (fits_after_lem s c h.0)
