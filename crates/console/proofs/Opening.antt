-- Open and return: a refusal says its number and writes nothing. Assumes nothing.
use mathlib.Core.Path.{◌≡◌, refl, ◌∙◌, ap}
use mathlib.Core.Bool.{Bool, true, false}
use mathlib.Core.List.{List}
use Prim.Native.Nat.{ℕ}
use native.Mathlib.Omega.{arith}
use borrow.Author.Tests.{eqb-true, eq-eqb, ne_eqb}
use lib.ListN.{length, get_or, replicate}
use lib.Dec.{eqb}
use Rattle.std.specs.Prelude.{Ok, Err}
use Rattle.rules.specs.declared.Refusal.TheVariants.{StateLength, NotIssued, Setting}
use Rattle.rules.specs.declared.Settings.{Settings}
use Rattle.rules.specs.Answers.{Leaves}
use Rattle.rules.specs.Settings.{settings_fit, setup_of}
use Rattle.rules.specs.Layout.{stored, all_zero, state_length}
use Rattle.rules.specs.Calls.{opened, open_call, return_call}
use Rattle.rules.proofs.Lists.{all_take, list_is}
use Rattle.rules.proofs.Fill.{list_same}

module _ (s : List ℕ) (x : Settings) where
  pub open_1 : (length s ≡ state_length → ⊥) → Leaves (open_call s x) (Err StateLength) s
  unfolding open_call
  open_1 l = rw (ne_eqb (length s) state_length l) (refl, refl)

  module _ (l : length s ≡ state_length) where
    pub open_17 : all_zero s ≡ false → Leaves (open_call s x) (Err NotIssued) s
    unfolding open_call
    open_17 z = rw (eq-eqb (length s) state_length l, z) (refl, refl)

    module _ (z : all_zero s ≡ true) where
      pub open_15 : settings_fit x ≡ false → Leaves (open_call s x) (Err Setting) s
      unfolding open_call
      open_15 f = rw (eq-eqb (length s) state_length l, z, f) (refl, refl)

      pub open_done : settings_fit x ≡ true → (t : List ℕ) → t ≡ stored (opened (setup_of x)) → Leaves (open_call s x) (Ok tt) t
      unfolding open_call
      open_done f t e = rw (eq-eqb (length s) state_length l, z, f) (refl, e)

module _ (s : List ℕ) where
  pub return_1 : (length s ≡ state_length → ⊥) → Leaves (return_call s) (Err StateLength) s
  unfolding return_call
  return_1 l = rw (ne_eqb (length s) state_length l) (refl, refl)

  pub return_done : length s ≡ state_length → (t : List ℕ) → t ≡ replicate (length s) 0 → Leaves (return_call s) (Ok tt) t
  unfolding return_call
  return_done l t e = rw (eq-eqb (length s) state_length l) (refl, e ∙ ap (λ n. replicate n 0) l)

-- bytes that are all zero
pub zeros : (s : List ℕ) → length s ≡ state_length → all_zero s ≡ true → s ≡ replicate state_length 0
zeros s l z =
    list_is (λ i. 0) 0 state_length s l (λ i h. eqb-true _ 0 (all_take (λ i. eqb (get_or s i 0) 0) (length s) z i (omega arith)))
    ∙ list_same 0 state_length

-- ---- a test of any form tells what was tested

pub is_true : (t : Bool) → (t ≡ false → ⊥) → t ≡ true
is_true true h = refl
is_true false h = absurd (h refl)

pub is_false : (t : Bool) → (t ≡ true → ⊥) → t ≡ false
is_false true h = absurd (h refl)
is_false false h = refl
