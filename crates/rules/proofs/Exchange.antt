-- Two steps of keeping may be exchanged, and a step on one product leaves another as short as it was. Assumes nothing.
use mathlib.Core.Path.{◌≡◌, refl, sym, ◌∙◌, ap, ap₂, subst}
use mathlib.Core.Bool.{Bool, true}
use mathlib.Core.List.{List, [], ◌∷◌}
use Prim.Native.Nat.{ℕ, zero, suc, ◌+◌, ◌*◌, ◌≤◌, ◌<◌}
use native.Mathlib.Decide.{ℕ_discrete}
use native.Mathlib.Omega.{arith}
use lib.Seq.{get_or-set_other}
use lib.Dec.{ltb}
use Rattle.std.specs.Prelude.{Option, None, Some}
use Rattle.rules.specs.declared.Place.{Place}
use Rattle.rules.specs.Count.{never}
use Rattle.rules.specs.Lots.{lowest, total}
use Rattle.rules.specs.Accept.{nowhere, place_at, changed, column, held_of, moving_of, rise_of, retain, deny, cancel}
use Rattle.rules.specs.Keep.{short, leaver, mover, risen, cancel_by, keep_step}
use Rattle.rules.proofs.Sums.{sum_le, and_left, and_right, best_found, best_ext}
use Rattle.rules.proofs.Lists.{both}
use Rattle.rules.proofs.Signed.{below_true, lt_below}
use Rattle.rules.proofs.Keep.{retain_first, deny_next}

-- ---- a place changed

-- two changes that may be exchanged at a place may be exchanged in a book, wherever they are made
swap : (u v : Place → Place) → ((x : Place) → u (v x) ≡ v (u x)) → (ps : List Place) (k j : ℕ)
    → changed u (changed v ps j) k ≡ changed v (changed u ps k) j
swap u v c [] k j = refl
swap u v c (x ∷ ps) zero zero = ap (λ y. y ∷ ps) (c x)
swap u v c (x ∷ ps) zero (suc j) = refl
swap u v c (x ∷ ps) (suc k) zero = refl
swap u v c (x ∷ ps) (suc k) (suc j) = ap (λ l. x ∷ l) (swap u v c ps k j)

-- what each place has to itself and to its change it has through the book
through : (u : Place → Place) (P : Place → Place → Type 0) → ((x : Place) → P x x) → ((x : Place) → P x (u x))
    → (ps : List Place) (k j : ℕ) → P (place_at ps j) (place_at (changed u ps k) j)
through u P r h [] k j = r nowhere
through u P r h (x ∷ ps) zero zero = h x
through u P r h (x ∷ ps) zero (suc j) = r (place_at ps j)
through u P r h (x ∷ ps) (suc k) zero = r x
through u P r h (x ∷ ps) (suc k) (suc j) = through u P r h ps k j

-- another place
other : (u : Place → Place) (ps : List Place) (k j : ℕ) → (j ≡ k → ⊥) → place_at (changed u ps k) j ≡ place_at ps j
other u ps k j d = get_or-set_other ps k j (u (place_at ps k)) nowhere d

-- ---- an increase cancelled

module _ (m : ℕ) where
  -- the increase of bidder b that a denied switch cancels
  abbrev cancel_one : ℕ → List Place → List Place
  cancel_one b ps = cancel_by (risen m ps b) ps b

  -- it goes by increases and priorities
  abbrev Alike : Place → Place → Type 0
  Alike x y = (rise_of y ≡ rise_of x) × (y.priority ≡ x.priority)

  risen_stays : (b : ℕ) (ps qs : List Place) → ((p : ℕ) → p < m → Alike (place_at ps (b * 8 + p)) (place_at qs (b * 8 + p)))
      → risen m qs b ≡ risen m ps b
  risen_stays b ps qs h = best_ext _ _ _ _ m (λ p l. ap (ltb 0) (h p l).0) (λ p q k l. ap₂ ltb (h q l).1 (h p k).1)

  -- a change that touches neither may be exchanged with it
  module _ (u : Place → Place) (flat : (x : Place) → Alike x (u x)) (c : (x : Place) → cancel (u x) ≡ u (cancel x))
      (b : ℕ) (ps : List Place) (k : ℕ) where
    cancel_by_lem : (q : Option ℕ) → cancel_by q (changed u ps k) b ≡ changed u (cancel_by q ps b) k
    cancel_by_lem (Some p) = swap cancel u c ps (b * 8 + p) k
    cancel_by_lem None = refl

    cancel_after : cancel_one b (changed u ps k) ≡ changed u (cancel_one b ps) k
    cancel_after =
        ap (λ q. cancel_by q (changed u ps k) b)
        (risen_stays b ps (changed u ps k) (λ p _. through u Alike (λ x. (refl, refl)) flat ps k (b * 8 + p)))
        ∙ cancel_by_lem (risen m ps b)

  module _ (hm : m ≤ 8) (ps : List Place) where
    -- the increases of another bidder stay
    stays_by : (b c : ℕ) → (b ≡ c → ⊥) → (r : Option ℕ) → risen m ps c ≡ r → risen m (cancel_by r ps c) b ≡ risen m ps b
    stays_by b c d (Some i) e =
        let l = (best_found (λ p. ltb 0 (rise_of (place_at ps (c * 8 + p)))) _ m i e).0 in
        risen_stays b ps (changed cancel ps (c * 8 + i)) (λ p k.
        let s = other cancel ps (c * 8 + i) (b * 8 + p) (λ f. d (omega arith)) in (ap rise_of s, ap (λ x. x.priority) s))
    stays_by b c d None e = refl

    pick_swap : (b c : ℕ) (q r : Option ℕ) → cancel_by q (cancel_by r ps c) b ≡ cancel_by r (cancel_by q ps b) c
    pick_swap b c (Some p) (Some r) = swap cancel cancel (λ x. refl) ps (b * 8 + p) (c * 8 + r)
    pick_swap b c (Some p) None = refl
    pick_swap b c None r = refl

    -- so two of them may be exchanged
    cancel_swap : (b c : ℕ) → cancel_one b (cancel_one c ps) ≡ cancel_one c (cancel_one b ps)
    cancel_swap b c =
        elim (ℕ_discrete b c) [
          | yes e ↦ subst (λ x. cancel_one x (cancel_one c ps) ≡ cancel_one c (cancel_one x ps)) (sym e) refl
          | no d ↦
              ap (λ q. cancel_by q (cancel_one c ps) b) (stays_by b c d (risen m ps c) refl)
              ∙ pick_swap b c (risen m ps b) (risen m ps c)
              ∙ sym (ap (λ q. cancel_by q (cancel_one b ps) c) (stays_by c b (λ e. d (sym e)) (risen m ps b) refl))
        ]

-- ---- a step by the withdrawal or the switch that it keeps

module _ (m n : ℕ) (draw : ℕ → ℕ) where
  abbrev act : Option ℕ → Option ℕ → ℕ → List Place → List Place
  act (Some i) r p ps = changed retain ps (draw i * 8 + p)
  act None (Some i) p ps = cancel_one m (draw i) (changed deny ps (draw i * 8 + p))
  act None None p ps = ps

  step_by : (ps : List Place) (p : ℕ) (q r : Option ℕ) → leaver n draw ps p ≡ q → mover n draw ps p ≡ r → keep_step m n draw ps p ≡ act q r p ps
  step_by ps p (Some i) r e g = retain_first m n draw ps p i e
  step_by ps p None (Some i) e g = deny_next m n draw ps p i e g
  step_by ps p None None e g = rw (e, g)

  -- what is kept on p where the places are ps
  abbrev chosen : List Place → ℕ → List Place → List Place
  chosen ps p qs = act (leaver n draw ps p) (mover n draw ps p) p qs

  step_is : (ps : List Place) (p : ℕ) → keep_step m n draw ps p ≡ chosen ps p ps
  step_is ps p = step_by ps p (leaver n draw ps p) (mover n draw ps p) refl refl

  -- any two may be exchanged
  module _ (hm : m ≤ 8) (ps : List Place) where
    retain_deny : (k c q : ℕ)
        → changed retain (cancel_one m c (changed deny ps (c * 8 + q))) k ≡ cancel_one m c (changed deny (changed retain ps k) (c * 8 + q))
    retain_deny k c q =
        sym (cancel_after m retain (λ x. (refl, refl)) (λ x. refl) c (changed deny ps (c * 8 + q)) k)
        ∙ ap (cancel_one m c) (swap retain deny (λ x. refl) ps k (c * 8 + q))

    deny_deny : (b p c q : ℕ) → cancel_one m b (changed deny (cancel_one m c (changed deny ps (c * 8 + q))) (b * 8 + p))
        ≡ cancel_one m c (changed deny (cancel_one m b (changed deny ps (b * 8 + p))) (c * 8 + q))
    deny_deny b p c q =
        ap (cancel_one m b) (sym (cancel_after m deny (λ x. (refl, refl)) (λ x. refl) c (changed deny ps (c * 8 + q)) (b * 8 + p)))
        ∙ cancel_swap m hm (changed deny (changed deny ps (c * 8 + q)) (b * 8 + p)) b c
        ∙ ap (λ l. cancel_one m c (cancel_one m b l)) (swap deny deny (λ x. refl) ps (b * 8 + p) (c * 8 + q))
        ∙ ap (cancel_one m c) (cancel_after m deny (λ x. (refl, refl)) (λ x. refl) b (changed deny ps (b * 8 + p)) (c * 8 + q))

    act_swap : (p q : ℕ) (x y z w : Option ℕ) → act x y p (act z w q ps) ≡ act z w q (act x y p ps)
    act_swap p q (Some i) y (Some j) w = swap retain retain (λ x. refl) ps (draw i * 8 + p) (draw j * 8 + q)
    act_swap p q (Some i) y None (Some j) = retain_deny (draw i * 8 + p) (draw j) q
    act_swap p q (Some i) y None None = refl
    act_swap p q None (Some i) (Some j) w = sym (retain_deny (draw j * 8 + q) (draw i) p)
    act_swap p q None (Some i) None (Some j) = deny_deny (draw i) p (draw j) q
    act_swap p q None (Some i) None None = refl
    act_swap p q None None z w = refl

    chosen_swap : (p q : ℕ) → chosen ps q (chosen ps p ps) ≡ chosen ps p (chosen ps q ps)
    chosen_swap p q = act_swap q p (leaver n draw ps q) (mover n draw ps q) (leaver n draw ps p) (mover n draw ps p)

  -- ---- what a step on p leaves on q

  module _ (ps : List Place) (p q : ℕ) (hp : p < 8) (hq : q < 8) (d : q ≡ p → ⊥) where
    -- withdrawals and switches as they were, and no more held: at most an increase is cancelled
    abbrev Left : Place → Place → Type 0
    Left x y = (y.leaving ≡ x.leaving) × (moving_of y ≡ moving_of x) × (held_of y ≤ held_of x)

    left_refl : (x : Place) → Left x x
    left_refl x = (refl, refl, omega arith)

    same_left : (x y : Place) → y ≡ x → Left x y
    same_left x y e = subst (Left x) (sym e) (left_refl x)

    cancel_left : (qs : List Place) (b : ℕ) (r : Option ℕ) (j : ℕ) → Left (place_at qs j) (place_at (cancel_by r qs b) j)
    cancel_left qs b (Some i) j = through cancel Left left_refl (λ x. (refl, refl, omega arith)) qs (b * 8 + i) j
    cancel_left qs b None j = left_refl (place_at qs j)

    act_left : (x y : Option ℕ) (c : ℕ) → Left (place_at ps (c * 8 + q)) (place_at (act x y p ps) (c * 8 + q))
    act_left (Some i) y c = same_left _ _ (other retain ps (draw i * 8 + p) (c * 8 + q) (λ e. d (omega arith)))
    act_left None (Some i) c =
        let qs = changed deny ps (draw i * 8 + p) in
        subst (λ x. Left x (place_at (act None (Some i) p ps) (c * 8 + q))) (other deny ps (draw i * 8 + p) (c * 8 + q) (λ e. d (omega arith)))
        (cancel_left qs (draw i) (risen m qs (draw i)) (c * 8 + q))
    act_left None None c = left_refl (place_at ps (c * 8 + q))

    step_left : (c : ℕ) → Left (place_at ps (c * 8 + q)) (place_at (keep_step m n draw ps p) (c * 8 + q))
    step_left c =
        subst (λ l. Left (place_at ps (c * 8 + q)) (place_at l (c * 8 + q))) (sym (step_is ps p))
        (act_left (leaver n draw ps p) (mover n draw ps p) c)

    -- so what would be kept on q stays
    leaver_stays : leaver n draw (keep_step m n draw ps p) q ≡ leaver n draw ps q
    leaver_stays =
        best_ext _ _ _ _ n (λ i _. ap (λ l. ltb 0 (total l)) (step_left (draw i)).0)
        (λ i j _ _. ap₂ (λ x y. ltb (lowest x) (lowest y)) (step_left (draw i)).0 (step_left (draw j)).0)

    mover_stays : mover n draw (keep_step m n draw ps p) q ≡ mover n draw ps q
    mover_stays = best_ext _ _ never never n (λ i _. ap (ltb 0) (step_left (draw i)).1) (λ i j _ _. refl)

    -- and what is short stays short
    pub short_stays : (target : ℕ → ℕ) (tick : ℕ → Bool) → short n target tick ps q ≡ true
        → short n target tick (keep_step m n draw ps p) q ≡ true
    short_stays target tick e =
        let l : column held_of ps q n < target q = below_true (column held_of ps q n) (target q) (and_right (tick q) _ e) in
        let k : column held_of (keep_step m n draw ps p) q n ≤ column held_of ps q n = sum_le _ _ n (λ b _. (step_left b).2) in
        both (and_left (tick q) _ e) (lt_below (column held_of (keep_step m n draw ps p) q n) (target q) (omega arith))

  -- ---- two steps

  module _ (hm : m ≤ 8) (ps : List Place) where
    two : (p q : ℕ) → p < 8 → q < 8 → (q ≡ p → ⊥) → keep_step m n draw (keep_step m n draw ps p) q ≡ chosen ps q (chosen ps p ps)
    two p q hp hq d =
        step_is (keep_step m n draw ps p) q
        ∙ ap₂ (λ x y. act x y q (keep_step m n draw ps p)) (leaver_stays ps p q hp hq d) (mover_stays ps p q hp hq d)
        ∙ ap (chosen ps q) (step_is ps p)

    -- a tranche kept on p and then one on q, or first on q and then on p: the same places
    pub keep_commutes : (p q : ℕ) → p < 8 → q < 8
        → keep_step m n draw (keep_step m n draw ps p) q ≡ keep_step m n draw (keep_step m n draw ps q) p
    keep_commutes p q hp hq =
        elim (ℕ_discrete q p) [
          | yes e ↦ subst (λ x. keep_step m n draw (keep_step m n draw ps p) x ≡ keep_step m n draw (keep_step m n draw ps x) p) (sym e) refl
          | no d ↦ two p q hp hq d ∙ chosen_swap hm ps p q ∙ sym (two q p hq hp (λ e. d (sym e)))
        ]
