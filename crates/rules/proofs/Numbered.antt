-- Each refusal has one number, and what an answer by a number tells of it. Assumes nothing.
use mathlib.Core.Path.{◌≡◌, refl, sym, ◌∙◌, ap}
use mathlib.Core.Bool.{false}
use Prim.Native.Nat.{ℕ, zero, suc, ◌<◌}
use native.Mathlib.Omega.{arith}
use lib.Dec.{eqb}
use borrow.Author.Tests.{ne_eqb}
use Rattle.std.specs.Prelude.{Result, Ok, Err, is_ok}
use Rattle.rules.specs.declared.Refusal.{Refusal}
use Rattle.rules.specs.declared.Refusal.TheVariants as refusal
use Rattle.rules.specs.Answers.{number_of, refusal_of, answer_or}
use Rattle.rules.proofs.Lists.{clash}

-- no number is 0, and no two refusals have the same
pub numbered : (e : Refusal) → (0 < number_of e) × (refusal_of (number_of e) ≡ e)
numbered refusal.StateLength = (omega arith, refl)
numbered refusal.NotStanding = (omega arith, refl)
numbered refusal.NotOpen = (omega arith, refl)
numbered refusal.CardLength = (omega arith, refl)
numbered refusal.Filling = (omega arith, refl)
numbered refusal.NoBidder = (omega arith, refl)
numbered refusal.OtherRound = (omega arith, refl)
numbered refusal.AboveCap = (omega arith, refl)
numbered refusal.Reduced = (omega arith, refl)
numbered refusal.AboveEligibility = (omega arith, refl)
numbered refusal.Withdrawn = (omega arith, refl)
numbered refusal.ExitPrice = (omega arith, refl)
numbered refusal.Priorities = (omega arith, refl)
numbered refusal.Draw = (omega arith, refl)
numbered refusal.Setting = (omega arith, refl)
numbered refusal.NotClosed = (omega arith, refl)
numbered refusal.NotIssued = (omega arith, refl)
numbered refusal.RoundOne = (omega arith, refl)
numbered refusal.Override = (omega arith, refl)
numbered refusal.Cutback = (omega arith, refl)
numbered refusal.Order = (omega arith, refl)
numbered refusal.ProductCount = (omega arith, refl)
numbered refusal.Field = (omega arith, refl)
numbered refusal.Suggestion = (omega arith, refl)

-- ---- what an answer by a number tells of the number

abbrev pub why : {A : Type 0} → Result A Refusal → Refusal
why (Ok x) = refusal.StateLength
why (Err e) = e

module _ {A : Type 0} (x : A) where
  pub accepted : (n : ℕ) {y : A} → Ok y ≡ answer_or n x → n ≡ 0
  accepted zero e = refl
  accepted (suc n) e = clash refl (ap is_ok e)

  pub rejected : (n : ℕ) {e : Refusal} → Err e ≡ answer_or n x → n ≡ 0 → ⊥
  rejected zero e z = clash (ap is_ok e) refl
  rejected (suc n) e z = let r : ⊥ = omega arith in r

  -- and by the same number another answer is refused alike
  pub passed_on : {B : Type 0} (y : B) (n m : ℕ) {e : Refusal} → Err e ≡ answer_or n x → n ≡ m → Err e ≡ answer_or m y
  passed_on y zero m e f = clash (ap is_ok e) refl
  passed_on y (suc n) m e f = ap Err (ap why e) ∙ ap (λ k. answer_or k y) f

-- which refusal it is
pub err_is : {A B : Type 0} (x : A) (n : ℕ) {e : Refusal} → Err e ≡ answer_or n x → ◌≡◌ {A = Result B Refusal} (Err e) (Err (refusal_of n))
err_is x zero h = clash (ap is_ok h) refl
err_is x (suc n) h = ap Err (ap why h)

-- an answer is no refusal where its number is 0
pub ok_is : {A : Type 0} (x : A) (n : ℕ) → is_ok (answer_or n x) ≡ eqb n 0
ok_is x zero = refl
ok_is x (suc n) = sym (ne_eqb (suc n) 0 (omega arith))

-- a refusal answers by its number
pub refused_by : {A : Type 0} (x : A) (n : ℕ) (e : Refusal) → n ≡ number_of e → Err e ≡ answer_or n x
refused_by x zero e q = absurd (let z : ⊥ = omega (arith, q, (numbered e).0) in z)
refused_by x (suc n) e q = ap Err (sym (ap refusal_of q ∙ (numbered e).1))
