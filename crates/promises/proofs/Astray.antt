-- Demand 1: "No bytes, card, draw or call order may stop it or lead it astray." Assumes nothing.
use mathlib.Core.Path.{◌≡◌, refl, ◌∙◌, ap}
use mathlib.Core.Bool.{Bool, true, false}
use mathlib.Core.Logic.{inl, inr}
use mathlib.Core.List.{List, [], ◌∷◌}
use Prim.Native.Nat.{ℕ}
use native.Mathlib.Omega.{arith}
use borrow.Author.Tests.{eqb-true, eqb-false}
use lib.ListN.{length, length-replicate}
use lib.Dec.{eqb}
use Rattle.rules.specs.declared.Settings.{Settings}
use Rattle.rules.specs.Layout.{state_length}
use Rattle.rules.specs.Calls.{open_number, open_call, return_call}
use Rattle.laws.proofs.OneCall.{issued_not_standing, open_refused, file_refused, calculate_refused, plain_refused, cutback_refused, return_issued, open_stands_lem}
use Rattle.rules.specs.Uses.{Call, opens, files, counts, calculates, calculates_plain, cuts, reports, results, reads, writes, suggests, after, Sized, Use, called, returned, used, Reached}
use Rattle.promises.specs.Hires.{Issued, IssuedOrStanding}
use Rattle.promises.proofs.Steps.{after_stands}

module _ (s : List ℕ) (I : Issued s) where
  stays : (t : List ℕ) → t ≡ s → IssuedOrStanding t
  stays t e = rw e (inl I)

  open_by : (x : Settings) (t : Bool) → eqb (open_number s x) 0 ≡ t → length x.eligibility ≡ 32 → length x.row ≡ 8
      → IssuedOrStanding (open_call s x).bytes
  open_by x true e i r = inr (open_stands_lem s x (eqb-true (open_number s x) 0 e) i r)
  open_by x false e i r = stays _ (open_refused s x (eqb-false (open_number s x) 0 e))

  issued_after : (c : Call) → Sized c → IssuedOrStanding (after s c)
  issued_after (opens x) h = open_by x (eqb (open_number s x) 0) refl h.0 h.1
  issued_after (files c) h =
      let n = (issued_not_standing s I.long I.zero).1 c in
      stays _ (file_refused s c (λ e. omega arith))
  issued_after counts h = inl I
  issued_after (calculates draw os) h =
      let n = (issued_not_standing s I.long I.zero).3 draw os in
      stays _ (calculate_refused s draw os (λ e. omega arith))
  issued_after (calculates_plain draw os order) h =
      let n = (issued_not_standing s I.long I.zero).4 draw os order in
      stays _ (plain_refused s draw os order (λ e. omega arith))
  issued_after (cuts targets caps) h =
      let n = (issued_not_standing s I.long I.zero).5 targets caps in
      stays _ (cutback_refused s targets caps (λ e. omega arith))
  issued_after (reports b) h = inl I
  issued_after results h = inl I
  issued_after (reads c n) h = inl I
  issued_after (writes room n b r ls) h = inl I
  issued_after (suggests bid ratio) h = inl I

call_keeps : (s : List ℕ) → IssuedOrStanding s → (c : Call) → Sized c → IssuedOrStanding (after s c)
call_keeps s (inl I) c h = issued_after s I c h
call_keeps s (inr S) c h = inr (after_stands s S c)

-- a return leaves any state of the right length as first issued
pub return_keeps : (s : List ℕ) → length s ≡ state_length → Issued (return_call s).bytes
return_keeps s l =
    let r = return_issued s l in
    record { long = ap length r.1 ∙ length-replicate {A = ℕ} state_length 0; zero = r.2 }

long_of : (s : List ℕ) → IssuedOrStanding s → length s ≡ state_length
long_of s (inl I) = I.long
long_of s (inr S) = S.long

-- from an issued or standing state no order of calls and returns leads anywhere else
pub never_astray : (s : List ℕ) → IssuedOrStanding s → (us : List Use) → IssuedOrStanding (used s us)
never_astray s K [] = K
never_astray s K (called c h ∷ us) = never_astray (after s c) (call_keeps s K c h) us
never_astray s K (returned ∷ us) = never_astray (return_call s).bytes (inl (return_keeps s (long_of s K))) us

-- from an issued or standing state calls and returns lead to no other
pub never_elsewhere : (s t : List ℕ) → IssuedOrStanding s → Reached s t → IssuedOrStanding t
never_elsewhere s t K (us, e) = rw e (never_astray s K us)
