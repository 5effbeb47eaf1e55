-- What a standing state gives to the crates that work on its auction. Assumes nothing.
use mathlib.Core.Path.{◌≡◌, refl}
use mathlib.Core.Bool.{Bool, true, false, cond}
use mathlib.Core.List.{List}
use Prim.Native.Nat.{ℕ, ◌≤◌, ◌<◌}
use native.Mathlib.Omega.{arith}
use borrow.Author.Tests.{ltb-true}
use lib.Count.{ones}
use lib.Dec.{ltb}
use Rattle.rules.specs.declared.Tranches.{Tranches}
use Rattle.rules.specs.Legal.{is_open}
use Rattle.rules.specs.Cutback.{may_cut}
use Rattle.rules.specs.Bits.{Bytes}
use Rattle.rules.specs.Layout.{loaded}
use Rattle.rules.specs.Calls.{bidder_number, cut_number}
use Rattle.rules.proofs.Storing.{loaded_bits}
use Rattle.cutback.specs.Cuttable.{Cutting}
use Rattle.numbers.proofs.StateLaws.{Stood}
use Rattle.console.proofs.Counting.{few_filed}

module _ (s : List ℕ) where
  pub few : Stood s → Bytes s → ones (loaded s).cards.filed ≤ (loaded s).terms.bidders
  few S B = few_filed (loaded s) S.stood (loaded_bits s B)

  bidder_by : (t : Bool) (x : ℕ) → cond t x 6 ≡ 0 → t ≡ true
  bidder_by true x e = refl
  bidder_by false x e = absurd (let z : ⊥ = omega arith in z)

  -- a bidder who is given a report is one in use
  pub bidder_in_use : (b : ℕ) → bidder_number b (loaded s) ≡ 0 → b < (loaded s).terms.bidders
  bidder_in_use b e = ltb-true b (loaded s).terms.bidders (bidder_by (ltb b (loaded s).terms.bidders) _ e)

  may_by : (t u : Bool) → ◌≡◌ {A = ℕ} (cond t (cond u 0 20) 3) 0 → (t ≡ true) × (u ≡ true)
  may_by true true e = (refl, refl)
  may_by true false e = absurd (let z : ⊥ = omega arith in z)
  may_by false u e = absurd (let z : ⊥ = omega arith in z)

  -- what a cutback that is not refused asks
  pub cutting : (targets caps : List Tranches) → Bytes s → Stood s → cut_number targets caps (loaded s) ≡ 0 → Cutting s targets caps
  cutting targets caps B S e =
      let m = may_by (is_open (loaded s)) (may_cut (loaded s) targets caps) e in record {
        long = S.long;
        stands = S.stood;
        bits = loaded_bits s B;
        bidding = m.0;
        may = m.1;
      }
