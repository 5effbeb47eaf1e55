-- The steps see of the ticks and targets only those of the products. Assumes nothing.
use mathlib.Core.Path.{◌≡◌, refl, ◌∙◌, ap, ap₂}
use mathlib.Core.Bool.{Bool, ◌&&◌, not, cond}
use mathlib.Core.List.{List}
use Prim.Native.Nat.{ℕ, zero, suc, ◌+◌, ◌-◌, ◌%◌, ◌≤◌, ◌<◌}
use native.Mathlib.Omega.{arith}
use native.Mathlib.Nat.{mod-lt}
use lib.Dec.{eqb, ltb}
use Rattle.std.specs.Prelude.{Option, None, Some}
use Rattle.rules.specs.declared.Place.{Place}
use Rattle.rules.specs.declared.Kept.{Kept}
use Rattle.rules.specs.declared.Outbid.{Outbid}
use Rattle.rules.specs.Count.{first_up_to}
use Rattle.rules.specs.Held.{standing, below, above}
use Rattle.rules.specs.Accept.{changed, column, held_of, kept_of}
use Rattle.rules.specs.Keep.{short, keep_step, kept, while_short, keep_loop}
use Rattle.rules.specs.Plain.{keep_many, visit, visits, passes}
use Rattle.rules.specs.Outbid.{deem_if, deemed_up_to, while_over, outbid_step, over, outbid_loop}
use Rattle.table.proofs.Laws.{first_ext}

while_short_lem : (q : Option ℕ) (f g : ℕ → Kept) (done : Kept) → ((p : ℕ) → f p ≡ g p) → while_short q f done ≡ while_short q g done
while_short_lem (Some p) f g done h = h p
while_short_lem None f g done h = refl

while_over_lem : (q : Option ℕ) (f g : ℕ → Outbid) (done : Outbid) → ((p : ℕ) → f p ≡ g p) → while_over q f done ≡ while_over q g done
while_over_lem (Some p) f g done h = h p
while_over_lem None f g done h = refl

module _ (tick other : ℕ → Bool) (same : (p : ℕ) → p < 8 → tick p ≡ other p) where
  pub deemed_same : (ps : List Place) (k : ℕ) → deemed_up_to tick ps k ≡ deemed_up_to other ps k
  unfolding deemed_up_to
  deemed_same ps zero = refl
  deemed_same ps (suc k) = ap₂ (λ t ps. changed (deem_if t) ps k) (same (k % 8) (mod-lt k (omega arith))) (deemed_same ps k)

  module _ (m n : ℕ) (few : m ≤ 8) (target goal : ℕ → ℕ) (aims : (p : ℕ) → p < 8 → target p ≡ goal p) (draw : ℕ → ℕ) where
    first_short : (ps : List Place) → first_up_to (short n target tick ps) m ≡ first_up_to (short n goal other ps) m
    first_short ps =
        first_ext (short n target tick ps) (short n goal other ps) m
        (λ p l. ap₂ (λ t x. t && below (standing (column held_of ps p n) x)) (same p (omega arith)) (aims p (omega arith)))

    pub keep_same : (f : ℕ) (ps : List Place) (c : ℕ) → keep_loop m n target tick draw f ps c ≡ keep_loop m n goal other draw f ps c
    unfolding keep_loop
    keep_same zero ps c = refl
    keep_same (suc f) ps c =
        rw (first_short ps) (while_short_lem (first_up_to (short n goal other ps) m) _ _ (kept ps c)
        (λ p. rw (keep_same f (keep_step m n draw ps p) (c + 1))))

    -- the plain engine sees of them those of the products that it visits
    module _ (order : ℕ → ℕ) (known : (i : ℕ) → i < m → order i < m) where
      visits_same : (s : Kept) (i : ℕ) → i ≤ m → visits m n target tick draw order s i ≡ visits m n goal other draw order s i
      unfolding visits
      visits_same s zero l = refl
      visits_same s (suc i) l =
          let p = order i in
          let h : p < 8 = omega (arith, known i (omega arith)) in
          let t = visits m n goal other draw order s i in
          ap (λ t. visit m n target tick draw order t p) (visits_same s i (omega arith))
          ∙ ap₂ (λ b x. keep_many m n draw (cond b (x - column held_of t.places p n) 0) t p) (same p h) (aims p h)

      pub plain_same : (f : ℕ) (s : Kept) → passes m n target tick draw order f s ≡ passes m n goal other draw order f s
      unfolding passes
      plain_same zero s = refl
      plain_same (suc f) s =
          rw (visits_same s m (omega arith))
          (ap (cond (eqb (visits m n goal other draw order s m).count s.count) (visits m n goal other draw order s m))
          (plain_same f (visits m n goal other draw order s m)))

    first_over_lem : (ps : List Place) → first_up_to (over n target tick ps) m ≡ first_up_to (over n goal other ps) m
    first_over_lem ps =
        first_ext (over n target tick ps) (over n goal other ps) m
        (λ p l. ap₂ (λ t x. not t && (above (standing (column held_of ps p n) x) && ltb 0 (column kept_of ps p n))) (same p (omega arith))
        (aims p (omega arith)))

    pub outbid_same : (f : ℕ) (s : Outbid) → outbid_loop m n target tick draw f s ≡ outbid_loop m n goal other draw f s
    unfolding outbid_loop
    outbid_same zero s = refl
    outbid_same (suc f) s =
        ap (λ q. while_over q (λ p. outbid_loop m n target tick draw f (outbid_step n draw s p)) s) (first_over_lem s.places)
        ∙ while_over_lem (first_up_to (over n goal other s.places) m) (λ p. outbid_loop m n target tick draw f (outbid_step n draw s p))
        (λ p. outbid_loop m n goal other draw f (outbid_step n draw s p)) s (λ p. outbid_same f (outbid_step n draw s p))
