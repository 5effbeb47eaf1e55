-- "What the contracts have to settle": one outcome for every input, and the useless boxes shut out. Assumes nothing.
use mathlib.Core.Path.{◌≡◌, refl, sym, ◌∙◌, ap, subst}
use mathlib.Core.Bool.{Bool, true, false, cond}
use mathlib.Core.List.{List, [], ◌∷◌}
use Prim.Native.Nat.{ℕ}
use native.Mathlib.Omega.{arith}
use borrow.Author.Tests.{eqb-true}
use lib.Dec.{eqb}
use Rattle.rules.specs.declared.Refusal.{Refusal}
use Rattle.std.specs.Prelude.{Err, Result}
use Rattle.rules.specs.Price.{Override}
use Rattle.rules.specs.declared.Tranches.{Tranches}
use Rattle.rules.specs.declared.Line.{Line}
use Rattle.rules.specs.declared.Settings.{Settings}
use Rattle.rules.specs.declared.Auction.{Auction}
use Rattle.rules.specs.declared.Calculation.{Calculation}
use Rattle.rules.specs.declared.Reported.{Reported}
use Rattle.rules.specs.declared.Awarded.{Awarded}
use Rattle.rules.specs.declared.CardRead.{CardRead}
use Rattle.rules.specs.Answers.{Leaves, Gives, outcome, said, calculation_said, refusal_of, Answer}
use Rattle.rules.specs.Round.{calculated}
use Rattle.rules.specs.Layout.{loaded}
use Rattle.rules.specs.Calls.{open_call, file_call, count_call, calculate_number, calculation_done, calculate_call, plain_call, cutback_call, report_call, result_call, return_call, read_call, write_call, suggested_call}
use Rattle.rules.proofs.Storing.{loaded_long}
use Rattle.laws.proofs.Bids.{bids_accepted}
use Rattle.laws.specs.Counted.{kept_where_ticked, CountsOutbid}
use Rattle.laws.proofs.Round.{round_kept, round_outbid}
use Rattle.laws.specs.OneCall.{StandsIn}
use Rattle.rules.proofs.Settling.{leaves_one, gives_one}
use Rattle.laws.proofs.OneCall.{stood, calculate_accepts, calculate_loaded}

-- ---- one outcome

-- "any two outcomes satisfying a contract coincide": the contracts of `console` say `Leaves` and `Gives` of these definitions, for every input,
-- on refusal too
pub unique_open : (s : List ℕ) (x : Settings) (o k : Answer) (t u : List ℕ)
    → Leaves (open_call s x) o t → Leaves (open_call s x) k u → (o ≡ k) × (t ≡ u)
unique_open s x = leaves_one (open_call s x)

pub unique_file : (s c : List ℕ) (o k : Answer) (t u : List ℕ) → Leaves (file_call s c) o t → Leaves (file_call s c) k u → (o ≡ k) × (t ≡ u)
unique_file s c = leaves_one (file_call s c)

pub unique_count : (s : List ℕ) (o k : Result ℕ Refusal) → Gives (count_call s) o → Gives (count_call s) k → o ≡ k
unique_count s = gives_one (count_call s)

pub unique_calculate : (s draw : List ℕ) (os : List Override) (o k : Result Calculation Refusal) (t u : List ℕ)
    → Leaves (calculate_call s draw os) o t → Leaves (calculate_call s draw os) k u → (o ≡ k) × (t ≡ u)
unique_calculate s draw os = leaves_one (calculate_call s draw os)

pub unique_plain : (s draw : List ℕ) (os : List Override) (order : List ℕ) (o k : Result Calculation Refusal) (t u : List ℕ)
    → Leaves (plain_call s draw os order) o t → Leaves (plain_call s draw os order) k u → (o ≡ k) × (t ≡ u)
unique_plain s draw os order = leaves_one (plain_call s draw os order)

pub unique_cutback : (s : List ℕ) (targets caps : List Tranches) (o k : Answer) (t u : List ℕ)
    → Leaves (cutback_call s targets caps) o t → Leaves (cutback_call s targets caps) k u → (o ≡ k) × (t ≡ u)
unique_cutback s targets caps = leaves_one (cutback_call s targets caps)

pub unique_report : (s : List ℕ) (b : ℕ) (o k : Reported) → Gives (report_call s b) o → Gives (report_call s b) k → o ≡ k
unique_report s b = gives_one (report_call s b)

pub unique_result : (s : List ℕ) (o k : Awarded) → Gives (result_call s) o → Gives (result_call s) k → o ≡ k
unique_result s = gives_one (result_call s)

pub unique_return : (s : List ℕ) (o k : Answer) (t u : List ℕ) → Leaves (return_call s) o t → Leaves (return_call s) k u → (o ≡ k) × (t ≡ u)
unique_return s = leaves_one (return_call s)

pub unique_read : (c : List ℕ) (n : ℕ) (o k : CardRead) → Gives (read_call c n) o → Gives (read_call c n) k → o ≡ k
unique_read c n = gives_one (read_call c n)

pub unique_write : (room : List ℕ) (n b r : ℕ) (ls : List Line) (o k : Answer) (t u : List ℕ)
    → Leaves (write_call room n b r ls) o t → Leaves (write_call room n b r ls) k u → (o ≡ k) × (t ≡ u)
unique_write room n b r ls = leaves_one (write_call room n b r ls)

pub unique_suggested : (bid ratio : ℕ) (o k : Result ℕ Refusal) → Gives (suggested_call bid ratio) o → Gives (suggested_call bid ratio) k → o ≡ k
unique_suggested bid ratio = gives_one (suggested_call bid ratio)

-- ---- the two counts

module _ (s : List ℕ) (S : StandsIn s) (draw : List ℕ) (os : List Override) (k o : ℕ)
    (d : calculation_said (calculate_call s draw os).answer ≡ said 0 (k ∷ o ∷ [])) where
  abbrev a : Auction
  a = loaded s

  abbrev z : Auction
  z = loaded (calculate_call s draw os).bytes

  accepted_by : (t : Bool) → eqb (calculate_number s draw os) 0 ≡ t
      → calculation_said (cond t (calculation_done (calculated a draw os)) (outcome (Err (refusal_of (calculate_number s draw os))) s)).answer ≡ said 0 (k ∷ o ∷ [])
      → (calculate_number s draw os ≡ 0) × ((calculated a draw os).kept ≡ k) × ((calculated a draw os).outbid ≡ o)
  accepted_by true e f =
      let v : ◌≡◌ {A = List ℕ} ((calculated a draw os).kept ∷ (calculated a draw os).outbid ∷ []) (k ∷ o ∷ []) = ap (λ x. x.values) f in
      (eqb-true _ 0 e, cc, cc)
  accepted_by false e f =
      let v : ◌≡◌ {A = List ℕ} [] (k ∷ o ∷ []) = ap (λ x. x.values) f in
      let x : ◌≡◌ {A = ℕ} 0 1 = cc in
      absurd (let y : ⊥ = omega arith in y)

  accepted : (calculate_number s draw os ≡ 0) × ((calculated a draw os).kept ≡ k) × ((calculated a draw os).outbid ≡ o)
  unfolding calculate_call
  accepted = accepted_by (eqb (calculate_number s draw os) 0) refl d

  -- "The first equals the kept tranches now on products that had ticked."
  pub kept_count : k ≡ kept_where_ticked a z
  kept_count =
      let A = accepted in
      let c = calculate_accepts s S draw os A.0 in
      rw (calculate_loaded s S draw os A.0)
      (sym A.1 ∙ round_kept a draw os (stood s S) (loaded_long s) c.0 c.1 c.2 (bids_accepted a (stood s S) c.0))

  -- "The second equals the kept tranches that stood before on the other products, less those deemed bid in step 3, less those still
  -- kept there."
  pub outbid_count : CountsOutbid a z o
  outbid_count =
      let A = accepted in
      let c = calculate_accepts s S draw os A.0 in
      rw (calculate_loaded s S draw os A.0)
      (subst (λ n. CountsOutbid a (calculated a draw os).auction n) A.2
      (round_outbid a draw os (stood s S) (loaded_long s) c.0 c.1 c.2 (bids_accepted a (stood s S) c.0)))
