-- Steps that may be exchanged and that do not stop one another: every run that goes as far as it can ends at the same place, after the same
-- number of steps. Assumes nothing.
use mathlib.Core.Path.{◌≡◌, refl, sym, ◌∙◌, ap, subst}
use Prim.Native.Nat.{ℕ, suc, ◌+◌}
use native.Mathlib.Omega.{arith}
use native.Mathlib.Decide.{ℕ_discrete}
use Rattle.rules.specs.Plain.{Run, none, more, Still}

module _ {A : Type 0} {can : A → ℕ → Type 0} {step : A → ℕ → A} where
  -- one run after another
  pub run_on : {x y z : A} {j k : ℕ} → Run can step x j y → Run can step y k z → Run can step x (j + k) z
  run_on {x = x} {z = z} {k = k} none s = subst (λ i. Run can step x i z) (let e : k ≡ 0 + k = omega arith in e) s
  run_on {x = x} {z = z} {j = suc j} {k = k} (more p c r) s =
      subst (λ i. Run can step x i z) (let e : suc (j + k) ≡ suc j + k = omega arith in e) (more p c (run_on r s))

  -- a run of no steps
  pub run_none : {x y : A} {k : ℕ} → Run can step x k y → k ≡ 0 → y ≡ x
  run_none none e = refl
  run_none (more p c r) e = absurd (let z : ⊥ = omega arith in z)

  module _ (stays : (x : A) (p q : ℕ) → can x p → can x q → (q ≡ p → ⊥) → can (step x p) q)
      (commute : (x : A) (p q : ℕ) → can x p → can x q → step (step x p) q ≡ step (step x q) p) where
    -- a step that could be made first may be made first
    strip : {x z : A} {k : ℕ} → Run can step x k z → Still can z → (p : ℕ) → can x p → (j : ℕ) × (k ≡ suc j) × Run can step (step x p) j z
    strip none h p c = absurd (h p c)
    strip {x = x} {z = z} {k = suc k} (more q d r) h p c = elim (ℕ_discrete p q) [
      | yes e ↦ (k, refl, subst (λ i. Run can step (step x i) k z) (sym e) r)
      | no n ↦
          let s = strip r h p (stays x q p d c n) in (
            k,
            refl,
            subst (λ i. Run can step (step x p) i z) (sym s.1)
                (more q (stays x p q c d (λ e. n (sym e))) (subst (λ y. Run can step y s.0 z) (commute x q p d c) s.2)),
          )
    ]

    -- all runs that go as far as they can are as long, and end at the same place
    pub one_end : {x y z : A} {j k : ℕ} → Run can step x j y → Still can y → Run can step x k z → Still can z → (j ≡ k) × (y ≡ z)
    one_end none h none g = (refl, refl)
    one_end (more p c r) h none g = absurd (g p c)
    one_end r h (more p c s) g = let t = strip r h p c in let u = one_end t.2 h s g in (t.1 ∙ ap suc u.0, u.1)
