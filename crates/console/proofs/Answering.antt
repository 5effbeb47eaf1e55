-- A call's answer and its bytes, by its number. Assumes nothing.
use mathlib.Core.Path.{◌≡◌, refl, ap}
use mathlib.Core.Bool.{cond}
use mathlib.Core.List.{List}
use Prim.Native.Nat.{ℕ, zero, suc}
use native.Mathlib.Omega.{arith}
use borrow.Author.Tests.{ne_eqb}
use lib.Dec.{eqb}
use Rattle.std.specs.Prelude.{Ok, Err, is_ok}
use Rattle.rules.specs.declared.Refusal.{Refusal}
use Rattle.rules.specs.Answers.{Leaves, refusal_of, answer_from, unless_refused}
use Rattle.rules.proofs.Numbered.{rejected, why}
use Rattle.rules.proofs.Lists.{clash}

-- "Every refusal returns its number only and writes nothing."
pub refuses : (n : ℕ) (new old : List ℕ) {e : Refusal} → Err e ≡ answer_from n → Leaves (unless_refused n new old) (Err e) old
refuses n new old h = (h, rw (ne_eqb n 0 (rejected tt n h)) refl)

-- 0 is done
pub does : (n : ℕ) (new old s : List ℕ) → n ≡ 0 → s ≡ new → Leaves (unless_refused n new old) (Ok tt) s
does n new old s z h = rw z (refl, h)

-- an answer of its own, or why there is none
pub refuses_with : {A : Type 0} (n : ℕ) (done : A) (say : Refusal → A) {e : Refusal} → Err e ≡ answer_from n → say e ≡ cond (eqb n 0) done (say (refusal_of n))
refuses_with zero done say h = clash (ap is_ok h) refl
refuses_with (suc n) done say h = rw (ne_eqb (suc n) 0 (omega arith)) (ap say (ap why h))

pub answers_with : {A : Type 0} (n : ℕ) (done : A) (say : Refusal → A) (a : A) → n ≡ 0 → a ≡ done → a ≡ cond (eqb n 0) done (say (refusal_of n))
answers_with n done say a z h = rw z h
