-- A round calculated: what it asks of a standing state, and its answer. Assumes nothing.
use mathlib.Core.Path.{◌≡◌, refl, sym, ◌∙◌, ap₂}
use mathlib.Core.Bool.{Bool, true, false, cond}
use mathlib.Core.List.{List}
use Prim.Native.Nat.{ℕ, zero, suc}
use native.Mathlib.Omega.{arith}
use borrow.Author.Tests.{ne_eqb}
use Rattle.rules.specs.Price.{Override}
use Rattle.rules.specs.declared.Calculation.{Calculation}
use Rattle.std.specs.Prelude.{Ok, Err}
use Rattle.rules.specs.declared.Refusal.{Refusal}
use Rattle.rules.specs.declared.Calculated.{Calculated}
use Rattle.rules.specs.Round.{draw_fits, order_fits, overrides_fit}
use Rattle.rules.specs.Answers.{Leaves, first_number, refusal_of, answer_from}
use Rattle.rules.specs.Bits.{Bytes}
use Rattle.rules.specs.Layout.{loaded}
use Rattle.rules.specs.Legal.{is_open}
use Rattle.rules.specs.Calls.{round_number, calculate_number, calculated_unless, plain_number}
use Rattle.rules.proofs.Numbered.{rejected, err_is}
use Rattle.rules.proofs.Storing.{loaded_bits}
use Rattle.round.specs.Ready.{Ready, ReadyFor, Tallies}
use Rattle.numbers.proofs.StateLaws.{stood_by}

fits_by : (t u v : Bool) → ◌≡◌ {A = ℕ} (cond t (cond u (cond v 0 19) 14) 3) 0 → (t ≡ true) × (u ≡ true)
fits_by true true v e = (refl, refl)
fits_by true false v e = absurd (let z : ⊥ = omega arith in z)
fits_by false u v e = absurd (let z : ⊥ = omega arith in z)

module _ (s draw : List ℕ) (os : List Override) where
  -- bids are open and the draw is in order: the round may be calculated
  pub ready : Bytes s → calculate_number s draw os ≡ 0 → Ready s draw
  ready B z =
      let p = stood_by s 3 (round_number draw os) (omega arith) z in
      let m = fits_by (is_open (loaded s)) (draw_fits (loaded s).terms.bidders draw) (overrides_fit os) p.1 in
      record { long = p.0.long; stands = p.0.stood; bits = loaded_bits s B; bidding = m.0; draw = m.1 }

-- the same with the plain engine, and an order of the products
pub ready_for : (s draw : List ℕ) (os : List Override) (order : List ℕ) → Bytes s → plain_number s draw os order ≡ 0 → ReadyFor s draw order
ready_for s draw os order B z =
    let p = first_none (calculate_number s draw os) _ z in
    record { round = ready s draw os B p.0; ordered = order_by (order_fits (loaded s).terms.products order) p.1 }
  where
    first_none : (n next : ℕ) → first_number n next ≡ 0 → (n ≡ 0) × (next ≡ 0)
    first_none zero next e = (refl, e)
    first_none (suc n) next e = absurd (let z : ⊥ = omega arith in z)

    order_by : (t : Bool) → ◌≡◌ {A = ℕ} (cond t 0 23) 0 → t ≡ true
    order_by true e = refl
    order_by false e = absurd (let z : ⊥ = omega arith in z)

-- why it is refused, or what the round answers and leaves
module _ (n : ℕ) (c : Calculated) (s : List ℕ) where
  pub refused : {e : Refusal} → Err e ≡ answer_from n → Leaves (calculated_unless n c s) (Err e) s
  refused h = rw (ne_eqb n 0 (rejected tt n h)) (err_is tt n h, refl)

  pub done : n ≡ 0 → (r : Calculation) (z : List ℕ) → Tallies c r z → Leaves (calculated_unless n c s) (Ok r) z
  done h r z T = rw h ((λ i. Ok (record { kept = T.kept i; outbid = T.outbid i })), T.bytes)
