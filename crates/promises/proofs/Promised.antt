-- Demand 3 while the auction runs: what is filled stays filled, and nobody holds too much. Assumes nothing.
use mathlib.Core.Path.{◌≡◌, ◌∙◌, ap}
use mathlib.Core.List.{List, [], ◌++◌}
use Prim.Native.Nat.{ℕ, ◌≤◌, ◌<◌}
use native.Mathlib.Omega.{arith}
use lib.ListN.{length, get_or}
use Rattle.rules.specs.declared.Settings.{Settings}
use Rattle.rules.specs.Count.{sum_up_to}
use Rattle.rules.specs.Units.{tranches}
use Rattle.rules.specs.Settings.{terms_of, setup_of, cap_of, initial_of}
use Rattle.rules.specs.Held.{held_in}
use Rattle.rules.specs.Bid.{record_of}
use Rattle.rules.specs.Layout.{loaded}
use Rattle.rules.specs.Calls.{open_number}
use Rattle.laws.proofs.OneCall.{stood, open_stands_lem}
use Rattle.rules.specs.Uses.{Call}
use Rattle.promises.specs.Runs.{run, opened_by, filled_part, cutbacks, settings_after}
use Rattle.promises.proofs.Steps.{opened_stands, opened_settings, opened_terms, opened_keeps, in_use, bidding, parts_later}

module _ (s : List ℕ) (x : Settings) (new : open_number s x ≡ 0) (e : length x.eligibility ≡ 32) (r : length x.row ≡ 8)
    (cs : List Call) where
  -- "the filled part of a product, meaning the lesser of its held tranches and its target, never falls", from any state to any later
  -- one with no accepted cutback between them: "what a reduced cap takes off in this call is no fall"
  pub never_falls : (ds : List Call) → cutbacks (run (opened_by s x) cs) ds ≡ [] → (p : ℕ) → p < (terms_of x).products
      → filled_part (loaded (run (opened_by s x) cs)) p ≤ filled_part (loaded (run (opened_by s x) (cs ++ ds))) p
  never_falls ds u p h = (parts_later (opened_by s x) (open_stands_lem s x new e r) cs ds u).filled p (in_use s x new e r cs p h)

  -- "No bidder ever holds more than its load cap on a product,": the cap as revised
  pub within_caps : (b p : ℕ) → b < (terms_of x).bidders → p < (terms_of x).products
      → held_in (record_of (loaded (run (opened_by s x) cs)) b p) ≤ cap_of (settings_after s x cs) p
  within_caps b p hb hp =
      let t = ap (λ t. cap_of t p) (opened_settings s x new e r cs) in
      omega (arith, (stood _ (opened_stands s x new e r cs)).caps b p (bidding s x new e r cs b hb) (in_use s x new e r cs p hp))

  -- "nor more than its initial eligibility over all"
  pub within_eligibility : (b : ℕ) → b < (terms_of x).bidders
      → sum_up_to (λ p. held_in (record_of (loaded (run (opened_by s x) cs)) b p)) (terms_of x).products ≤ initial_of (setup_of x) b
  within_eligibility b h =
      let K = opened_keeps s x new e r cs in
      let i = ap (λ l. (get_or l b (tranches 0)).0) (ap (λ t. t.eligibility) (opened_settings s x new e r cs) ∙ K.eligibility) in
      let m = ap (λ t. t.products) (opened_terms s x new e r cs) in
      let t = rw m at ((stood _ (opened_stands s x new e r cs)).eligible b (bidding s x new e r cs b h)) in
      omega arith
