-- Document 02, request 10: with the plain engine, in any order that fits, step 2 keeps what the box's own keeps; so the call. Assumes nothing.
use mathlib.Core.Path.{◌≡◌, refl, sym, ◌∙◌, ap, subst}
use mathlib.Core.Bool.{Bool, true, false, cond}
use mathlib.Core.List.{List}
use Prim.Native.Nat.{ℕ, zero, suc}
use native.Mathlib.Omega.{arith}
use borrow.Author.Tests.{eqb-true, eqb-false}
use lib.Dec.{eqb}
use Rattle.rules.specs.declared.Refusal.{Refusal}
use Rattle.std.specs.Prelude.{Result}
use Rattle.rules.specs.Price.{Override}
use Rattle.rules.specs.declared.Auction.{Auction}
use Rattle.rules.specs.declared.Calculation.{Calculation}
use Rattle.rules.specs.Answers.{Outcome, first_number}
use Rattle.rules.specs.Settings.{setup, target_of}
use Rattle.rules.specs.Held.{ticked}
use Rattle.rules.specs.Accept.{accepted_all}
use Rattle.rules.specs.Round.{drawn, draw_fits, order_fits, after_step2, plain_step2, after_kept, calculated, calculated_plain}
use Rattle.rules.specs.Layout.{loaded}
use Rattle.rules.specs.Legal.{is_open}
use Rattle.rules.specs.Calls.{round_number, calculate_number, calculated_unless, calculate_call, plain_number, plain_call}
use Rattle.rules.specs.Stands.{Stands}
use Rattle.rules.proofs.Legal.{stands_take}
use Rattle.rules.proofs.Plain.{plain_same}
use Rattle.laws.proofs.Bids.{bids_accepted}
use Rattle.laws.proofs.Calling.{granted}
use Rattle.laws.proofs.Draw.{draw_range, draw_reach}
use Rattle.laws.proofs.Made.{keepable}
use Rattle.laws.proofs.OneCall.{accepted_by, plain_refused}

-- ---- of an auction

module _ (a : Auction) (S : Stands a) (o : is_open a ≡ true) (draw : List ℕ) (D : draw_fits a.terms.bidders draw ≡ true) (order : List ℕ)
    (O : order_fits a.terms.products order ≡ true) where
  abbrev m : ℕ
  m = a.terms.products

  abbrev n : ℕ
  n = a.terms.bidders

  -- the same 256 places, and the same count
  pub plain_step : plain_step2 a draw order ≡ after_step2 a draw
  plain_step =
      plain_same m n (target_of (setup a)) (ticked a) (drawn draw) S.limits.products (draw_range n draw D) (draw_reach n draw D) (drawn order)
      (draw_range m order O) (draw_reach m order O) (accepted_all a) (keepable a S (bids_accepted a S o))

  -- and so the whole calculation
  pub plain_calculated : (os : List Override) → calculated_plain a draw os order ≡ calculated a draw os
  unfolding calculated_plain calculated
  plain_calculated os = ap (after_kept a draw os) plain_step

-- ---- of lent bytes

module _ (s draw : List ℕ) (os : List Override) where
  -- a calculation accepted, of any bytes: the auction in them stands, bids are open, and the draw fits
  pub accepts : calculate_number s draw os ≡ 0
      → Stands (loaded s) × (is_open (loaded s) ≡ true) × (draw_fits (loaded s).terms.bidders draw ≡ true)
  accepts e =
      let p = accepted_by s 3 (omega arith) (round_number draw os) e in
      let o = granted (is_open (loaded s)) _ 3 (omega arith) p.2 in
      (stands_take (loaded s) p.1, o.0, (granted (draw_fits (loaded s).terms.bidders draw) _ 14 (omega arith) o.1).0)

  module _ (order : List ℕ) where
    both_by : (n : ℕ) (t : Bool) → first_number n (cond t 0 23) ≡ 0 → (n ≡ 0) × (t ≡ true)
    both_by zero true e = (refl, refl)
    both_by zero false e = absurd (let z : ⊥ = omega arith in z)
    both_by (suc n) t e = absurd (let z : ⊥ = omega arith in z)

    -- accepted by the order: accepted without, and the order fits
    pub plain_accepts : plain_number s draw os order ≡ 0
        → (calculate_number s draw os ≡ 0) × (order_fits (loaded s).terms.products order ≡ true)
    plain_accepts = both_by (calculate_number s draw os) (order_fits (loaded s).terms.products order)

    first_none : (n : ℕ) → first_number n 0 ≡ n
    first_none zero = refl
    first_none (suc n) = refl

    module _ (O : order_fits (loaded s).terms.products order ≡ true) where
      -- with an order that fits the number is calculate's
      pub plain_number_lem : plain_number s draw os order ≡ calculate_number s draw os
      plain_number_lem = rw O (first_none (calculate_number s draw os))

      done_by : (t : Bool) → eqb (calculate_number s draw os) 0 ≡ t
          → calculated_unless (calculate_number s draw os) (calculated_plain (loaded s) draw os order) s
          ≡ calculated_unless (calculate_number s draw os) (calculated (loaded s) draw os) s
      done_by true e =
          let p = accepts (eqb-true _ 0 e) in
          ap (λ c. calculated_unless (calculate_number s draw os) c s) (plain_calculated (loaded s) p.0 p.1 draw p.2 order O os)
      done_by false e = rw e

      -- and so are its answer and every byte
      pub plain_call_lem : plain_call s draw os order ≡ calculate_call s draw os
      unfolding plain_call calculate_call
      plain_call_lem =
          ap (λ k. calculated_unless k (calculated_plain (loaded s) draw os order) s) plain_number_lem
          ∙ done_by (eqb (calculate_number s draw os) 0) refl

    leaves_by : (P : List ℕ → Type 0) → P s → P (calculate_call s draw os).bytes → (t : Bool) → eqb (plain_number s draw os order) 0 ≡ t
        → P (plain_call s draw os order).bytes
    leaves_by P x y true e =
        let O = (plain_accepts (eqb-true (plain_number s draw os order) 0 e)).1 in
        subst P (sym (ap (λ (o : Outcome (Result Calculation Refusal)). o.bytes) (plain_call_lem O))) y
    leaves_by P x y false e = subst P (sym (plain_refused s draw os order (eqb-false (plain_number s draw os order) 0 e))) x

    -- of any bytes it leaves them as they were, or what calculate leaves
    pub plain_leaves : (P : List ℕ → Type 0) → P s → P (calculate_call s draw os).bytes → P (plain_call s draw os order).bytes
    plain_leaves P x y = leaves_by P x y (eqb (plain_number s draw os order) 0) refl
