-- The loop of step 2: what is left gives the same answer after every tranche kept. Assumes nothing.
use mathlib.Core.Path.{◌≡◌, refl, sym, ◌∙◌, ap, ap₂}
use mathlib.Core.Bool.{Bool, true, false, ◌&&◌, cond}
use mathlib.Core.List.{List}
use Prim.Native.Nat.{ℕ, zero, suc, ◌+◌, ◌≤◌}
use native.Mathlib.Omega.{arith}
use Rattle.std.specs.Prelude.{Option, None, Some}
use Rattle.rules.specs.declared.Kept.{Kept}
use Rattle.rules.specs.declared.Place.{Place}
use Rattle.rules.specs.Count.{first_up_to, never}
use Rattle.rules.specs.Held.{standing, below}
use Rattle.rules.specs.Keep.{short, keep_step, can_keep, kept, keep_loop}
use Rattle.rules.specs.Round.{drawn}
use Rattle.rules.proofs.Sums.{best_found}
use Rattle.table.specs.Drawn.{Drawn}
use Rattle.held.specs.Ticks.{is_one}
use Rattle.table.specs.Room.{target_on}
use Rattle.table.proofs.Laws.{first_ext}
use Rattle.keep.specs.Step.{short_by}
use Rattle.keep.specs.Work.{Working, Keeping, KeptNext}

-- ---- one turn of the definition

module _ (m n : ℕ) (target : ℕ → ℕ) (tick : ℕ → Bool) (draw : ℕ → ℕ) (ps : List Place) where
  pub loop_none : (f c : ℕ) → first_up_to (short n target tick ps) m ≡ None → keep_loop m n target tick draw f ps c ≡ kept ps c
  unfolding keep_loop
  loop_none zero c e = refl
  loop_none (suc f) c e = rw e

  pub loop_step : (f c p : ℕ) → first_up_to (short n target tick ps) m ≡ Some p → can_keep n draw ps p ≡ true
      → keep_loop m n target tick draw (suc f) ps c ≡ keep_loop m n target tick draw f (keep_step m n draw ps p) (c + 1)
  unfolding keep_loop
  loop_step f c p e k = rw (e, k)

  -- with no steps left, or nothing left to keep on the short product
  pub loop_out : (f c : ℕ) → f ≤ 0 → keep_loop m n target tick draw f ps c ≡ kept ps c
  unfolding keep_loop
  loop_out zero c l = refl
  loop_out (suc f) c l = absurd (let z : ⊥ = omega arith in z)

  pub loop_idle : (f c p : ℕ) → first_up_to (short n target tick ps) m ≡ Some p → can_keep n draw ps p ≡ false
      → keep_loop m n target tick draw f ps c ≡ kept ps c
  unfolding keep_loop
  loop_idle zero c p e k = refl
  loop_idle (suc f) c p e k = rw (e, k)

-- ---- one turn of the code

-- what is left gives the whole
pub record Turn (m n : ℕ) (targets ticks order : List ℕ) (whole : Kept) (ps : List Place) (held turns ranks : List ℕ) (count fuel : ℕ) : Type 0 where
  pub few : m ≤ 8
  pub draw : Drawn n order
  pub working : Working n ps held turns ranks
  pub some : count + fuel ≤ 83884800
  pub same : keep_loop m n (target_on targets) (is_one ticks) (drawn order) fuel ps count ≡ whole

module _ {m n : ℕ} {targets ticks order : List ℕ} {whole : Kept} {ps : List Place} {held turns ranks : List ℕ} {count fuel : ℕ}
    (t : Turn m n targets ticks order whole ps held turns ranks count fuel) where
  pub turn_out : fuel ≤ 0 → kept ps count ≡ whole
  turn_out l = sym (loop_out m n (target_on targets) (is_one ticks) (drawn order) ps fuel count l) ∙ t.same

  module _ (q : Option ℕ) (e : q ≡ first_up_to (short_by held targets ticks) m) where
    -- the code looks at what it has counted, the definition counts anew
    first_same : first_up_to (short n (target_on targets) (is_one ticks) ps) m ≡ q
    first_same =
        sym (e ∙ first_ext (short_by held targets ticks) (short n (target_on targets) (is_one ticks) ps) m
        (λ p l. ap (λ h. is_one ticks p && below (standing h (target_on targets p)))
        (t.working.book.holds.each p (omega (arith, t.few)))))

    pub turn_none : q ≡ None → kept ps count ≡ whole
    turn_none f = sym (loop_none m n (target_on targets) (is_one ticks) (drawn order) ps fuel count (first_same ∙ f)) ∙ t.same

    -- a tranche kept on the short product, or none left to keep there
    module _ (p : ℕ) (f : q ≡ Some p) where
      pub turn_keeping : Keeping m n order ps held turns ranks p
      turn_keeping =
          let l = (best_found (short n (target_on targets) (is_one ticks) ps) never m p (first_same ∙ f)).0 in
          record { few = t.few; draw = t.draw; product = omega (arith, t.few); working = t.working }

      module _ {r : Bool} {ps' : List Place} {held' turns' ranks' : List ℕ} (K : KeptNext m n order ps p r ps' held' turns' ranks') where
        places_by : {b : Bool} → r ≡ b → ps' ≡ cond b (keep_step m n (drawn order) ps p) ps
        places_by z = K.places ∙ ap (λ b. cond b (keep_step m n (drawn order) ps p) ps) z

        pub turn_idle : r ≡ false → kept ps' count ≡ whole
        turn_idle z =
            ap (λ x. kept x count) (places_by z)
            ∙ sym (loop_idle m n (target_on targets) (is_one ticks) (drawn order) ps fuel count p (first_same ∙ f) (sym K.can ∙ z))
            ∙ t.same

        pub turn_again : r ≡ true → (c : ℕ) → c ≡ count + 1 → (left : ℕ) → suc left ≡ fuel
            → Turn m n targets ticks order whole ps' held' turns' ranks' c left
        turn_again z c ec left one =
            let go = keep_loop m n (target_on targets) (is_one ticks) (drawn order) in
            record {
              few = t.few;
              draw = t.draw;
              working = K.working;
              some = omega (arith, t.some, one);
              same =
                  ap₂ (go left) (places_by z) ec
                  ∙ sym (loop_step m n (target_on targets) (is_one ticks) (drawn order) ps left count p (first_same ∙ f)
                  (sym K.can ∙ z))
                  ∙ ap (λ f. go f ps count) one ∙ t.same;
            }
