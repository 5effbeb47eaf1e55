-- Step 2 keeps a tranche wherever a ticked product is short, and ends with none short. Assumes nothing.
use mathlib.Core.Path.{◌≡◌, refl, sym, ◌∙◌, ap, subst}
use mathlib.Core.Bool.{Bool, true, false, ◌&&◌, cond}
use mathlib.Core.List.{List}
use Prim.Native.Nat.{ℕ, zero, suc, ◌+◌, ◌*◌, ◌≤◌, ◌<◌}
use native.Mathlib.Omega.{arith}
use borrow.Author.Tests.{eqb-true, eqb-false, ltb-true, ltb-false}
use lib.ListN.{length, length-set}
use lib.Dec.{eqb, ltb}
use Rattle.std.specs.Prelude.{Option, None, Some}
use Rattle.rules.specs.declared.Lots.{Lots}
use Rattle.rules.specs.declared.Place.{Place}
use Rattle.rules.specs.declared.Kept.{Kept}
use Rattle.rules.specs.Count.{sum_up_to, first_up_to, never}
use Rattle.rules.specs.Keep.{Keepable, risen, cancel_by, short, leaver, mover, deny_at, keep_step, can_keep, kept, while_short, keep_loop, kept_all}
use Rattle.rules.specs.Lots.{first_used, Beginning}
use Rattle.rules.specs.Held.{standing, below}
use Rattle.rules.specs.Accept.{place_at, changed, held_of, kept_of, left_of, leaving_of, leaving_at, moving_of, rise_of, retain, deny, cancel, column, row_of, every}
use Rattle.rules.proofs.Sums.{sum_le, sum_six, sum_ge, sum_pos, sum_one, and_left, and_right, best_found, best_none}
use Rattle.rules.proofs.Lists.{clash}
use Rattle.rules.proofs.LotLaws.{take_total, retain_total, beginning_step}
use Rattle.rules.proofs.Signed.{below_true, below_false}
use Rattle.rules.proofs.Places.{going_of, denied_of, retained_of, each, column_at, column_beside, row_at, row_beside, every_at, column_flat, row_flat, every_flat}

-- a place before and after: nothing but kept withdrawals, denied switches and cancelled increases
pub record Moved (x y : Place) : Type 0 where
  pub going : going_of y + rise_of x ≡ going_of x + rise_of y
  pub outs : leaving_of y + retained_of y ≡ leaving_of x + retained_of x
  pub switches : moving_of y + denied_of y ≡ moving_of x + denied_of x
  pub leaving : leaving_of y ≤ leaving_of x
  pub moving : moving_of y ≤ moving_of x
  pub rise : rise_of y ≤ rise_of x
  pub same : retained_of y ≡ retained_of x → y.holds.retained ≡ x.holds.retained
  pub lots : (c : Lots) → Beginning c x.leaving x.holds.retained → Beginning c y.leaving y.holds.retained

-- no step, and one after another
pub moved_refl : (x : Place) → Moved x x
moved_refl x = record {
  going = refl;
  outs = refl;
  switches = refl;
  leaving = omega arith;
  moving = omega arith;
  rise = omega arith;
  same = λ e. refl;
  lots = λ c b. b;
}

pub moved_trans : (x y z : Place) → Moved x y → Moved y z → Moved x z
moved_trans x y z f g = record {
  going = omega arith;
  outs = omega arith;
  switches = omega arith;
  leaving = omega arith;
  moving = omega arith;
  rise = omega arith;
  same = λ e. g.same (omega arith) ∙ f.same (omega arith);
  lots = λ c b. g.lots c (f.lots c b);
}

-- the three changes of a place
moved_retain : (x : Place) → 0 < leaving_of x → Moved x (retain x)
moved_retain x h =
    let t = take_total x.leaving h in
    let r = retain_total x.holds.retained (first_used x.leaving) (leaving_at x) in
    record {
      going = refl;
      outs = omega arith;
      switches = refl;
      leaving = omega arith;
      moving = omega arith;
      rise = omega arith;
      same = λ e. absurd (let z : ⊥ = omega arith in z);
      lots = λ c b. beginning_step c x.leaving x.holds.retained b h;
    }

moved_deny : (x : Place) → 0 < moving_of x → Moved x (deny x)
moved_deny x h = record {
  going = refl;
  outs = refl;
  switches = omega arith;
  leaving = omega arith;
  moving = omega arith;
  rise = omega arith;
  same = λ e. refl;
  lots = λ c b. b;
}

moved_cancel : (x : Place) → 0 < rise_of x → rise_of x ≤ going_of x → Moved x (cancel x)
moved_cancel x h l = record {
  going = omega arith;
  outs = refl;
  switches = refl;
  leaving = omega arith;
  moving = omega arith;
  rise = omega arith;
  same = λ e. refl;
  lots = λ c b. b;
}

-- "Unkept withdrawals go first, .. then switches": the step by what is left
module _ (m n : ℕ) (draw : ℕ → ℕ) (ps : List Place) (p i : ℕ) where
  pub retain_first : leaver n draw ps p ≡ Some i → keep_step m n draw ps p ≡ changed retain ps (draw i * 8 + p)
  retain_first e = rw e

  pub deny_next : leaver n draw ps p ≡ None → mover n draw ps p ≡ Some i → keep_step m n draw ps p ≡ deny_at m ps (draw i) p
  deny_next e g = rw (e, g)

-- what one step on product p does
pub record Stepped (m n p : ℕ) (ps ps' : List Place) : Type 0 where
  pub long : length ps' ≡ length ps
  pub moved : (j : ℕ) → Moved (place_at ps j) (place_at ps' j)
  pub owed : (b : ℕ) → row_of rise_of ps' b m + row_of moving_of ps b m ≡ row_of moving_of ps' b m + row_of rise_of ps b m
  pub left : every left_of ps' n + 1 ≡ every left_of ps n
  pub held_here : column held_of ps' p n ≤ column held_of ps p n + 1
  pub held_there : (q : ℕ) → q < m → (q ≡ p → ⊥) → column held_of ps' q n ≤ column held_of ps q n
  pub kept_here : column kept_of ps' p n ≡ column kept_of ps p n + 1
  pub kept_there : (q : ℕ) → q < m → (q ≡ p → ⊥) → column kept_of ps' q n ≡ column kept_of ps q n

module _ (m n : ℕ) (hm : m ≤ 8) (ps : List Place) (b p : ℕ) (hb : b < n) (hp : p < m) (long : b * 8 + p < length ps) where
  -- a withdrawal retained
  pub retain_stepped : 0 < leaving_of (place_at ps (b * 8 + p)) → Stepped m n p ps (changed retain ps (b * 8 + p))
  retain_stepped h =
      let t = take_total (place_at ps (b * 8 + p)).leaving h in
      let s = retain_total (place_at ps (b * 8 + p)).holds.retained (first_used (place_at ps (b * 8 + p)).leaving) (leaving_at (place_at ps (b * 8 + p))) in
      record {
        long = length-set ps (b * 8 + p) _;
        moved = each retain ps (b * 8 + p) long Moved moved_refl (moved_retain _ h);
        owed = λ c. let x = row_flat retain ps b p long rise_of refl c m in let y = row_flat retain ps b p long moving_of refl c m in omega arith;
        left = let x = every_at retain ps b p long left_of n hb (omega arith) in omega arith;
        held_here = let x = column_at retain ps b p long held_of n hb in omega arith;
        held_there = λ q l d. let x = column_beside retain ps b p long held_of q n (omega arith) (omega arith) d in omega arith;
        kept_here = let x = column_at retain ps b p long kept_of n hb in omega arith;
        kept_there = λ q l d. column_beside retain ps b p long kept_of q n (omega arith) (omega arith) d;
      }

  -- a denied switch, and the increase at q cancelled
  module _ (h : 0 < moving_of (place_at ps (b * 8 + p))) (q : ℕ) (hq : q < m) (long' : b * 8 + q < length (changed deny ps (b * 8 + p)))
      (some : 0 < rise_of (place_at (changed deny ps (b * 8 + p)) (b * 8 + q)))
      (fits : rise_of (place_at (changed deny ps (b * 8 + p)) (b * 8 + q)) ≤ going_of (place_at (changed deny ps (b * 8 + p)) (b * 8 + q))) where
    abbrev once : List Place
    once = changed deny ps (b * 8 + p)

    abbrev twice : List Place
    twice = changed cancel once (b * 8 + q)

    -- a cancelled increase raises nothing that is held
    down : (j : ℕ) → held_of (place_at twice j) ≤ held_of (place_at once j)
    down = each cancel once (b * 8 + q) long' (λ x y. held_of y ≤ held_of x) (λ l. omega arith) (omega arith)

    column_down : (r : ℕ) → column held_of twice r n ≤ column held_of once r n
    column_down r = sum_le (λ i. held_of (place_at twice (i * 8 + r))) (λ i. held_of (place_at once (i * 8 + r))) n (λ i _. down (i * 8 + r))

    -- the bidder's switches and increases fall together
    owed_by : (c : ℕ) (t : Bool) → eqb c b ≡ t → row_of rise_of twice c m + row_of moving_of ps c m ≡ row_of moving_of twice c m + row_of rise_of ps c m
    owed_by c true e =
        rw (eqb-true c b e) (
        let x = row_flat deny ps b p long rise_of refl b m in
        let y = row_at cancel once b q long' rise_of m hq in
        let z = row_at deny ps b p long moving_of m hp in
        let w = row_flat cancel once b q long' moving_of refl b m in
        omega arith)
    owed_by c false e =
        let d = eqb-false c b e in
        let x = row_beside deny ps b p long rise_of c m (omega arith) hm d in
        let y = row_beside cancel once b q long' rise_of c m (omega arith) hm d in
        let z = row_beside deny ps b p long moving_of c m (omega arith) hm d in
        let w = row_beside cancel once b q long' moving_of c m (omega arith) hm d in
        omega arith

    pub deny_stepped : Stepped m n p ps (changed cancel (changed deny ps (b * 8 + p)) (b * 8 + q))
    deny_stepped = record {
      long = length-set once (b * 8 + q) _ ∙ length-set ps (b * 8 + p) _;
      moved = λ j.
          moved_trans _ _ _ (each deny ps (b * 8 + p) long Moved moved_refl (moved_deny _ h) j)
          (each cancel once (b * 8 + q) long' Moved moved_refl (moved_cancel _ some fits) j);
      owed = λ c. owed_by c (eqb c b) refl;
      left =
          let x = every_at deny ps b p long left_of n hb (omega arith) in
          let y = every_flat cancel once b q long' left_of refl n in
          omega arith;
      held_here = let x = column_at deny ps b p long held_of n hb in let y = column_down p in omega arith;
      held_there = λ r l d. let x = column_beside deny ps b p long held_of r n (omega arith) (omega arith) d in let y = column_down r in omega arith;
      kept_here = let x = column_at deny ps b p long kept_of n hb in let y = column_flat cancel once b q long' kept_of refl p n in omega arith;
      kept_there = λ r l d.
          let x = column_beside deny ps b p long kept_of r n (omega arith) (omega arith) d in
          let y = column_flat cancel once b q long' kept_of refl r n in
          omega arith;
    }

-- the kept tranches on the products that ticked
abbrev pub kept_where : ℕ → ℕ → (ℕ → Bool) → List Place → ℕ
kept_where m n tick ps = sum_up_to (λ p. cond (tick p) (column kept_of ps p n) 0) m

-- what is left when keeping ends
pub record Ended (m n : ℕ) (target : ℕ → ℕ) (tick : ℕ → Bool) (ps : List Place) (c : ℕ) (k : Kept) : Type 0 where
  pub keepable : Keepable m n target tick k.places
  pub moved : (j : ℕ) → Moved (place_at ps j) (place_at k.places j)
  pub owed : (b : ℕ) → row_of rise_of k.places b m + row_of moving_of ps b m ≡ row_of moving_of k.places b m + row_of rise_of ps b m
  pub none : (p : ℕ) → p < m → short n target tick k.places p ≡ false
  pub counted : k.count + kept_where m n tick ps ≡ c + kept_where m n tick k.places

module _ (m n : ℕ) (target : ℕ → ℕ) (tick : ℕ → Bool) (draw : ℕ → ℕ) (hm : m ≤ 8)
    (range : (i : ℕ) → i < n → draw i < n) (reach : (b : ℕ) → b < n → (i : ℕ) × (i < n) × (draw i ≡ b)) where
  module _ (ps : List Place) (K : Keepable m n target tick ps) where
    -- something is left where a ticked product is short
    pub some_left : (p : ℕ) → p < m → tick p ≡ true → column held_of ps p n < target p
        → (b : ℕ) × (b < n) × (0 < left_of (place_at ps (b * 8 + p)))
    some_left p lp tp sh = sum_pos (λ b. left_of (place_at ps (b * 8 + p))) n (omega (arith, K.full p lp tp))

    module _ (p : ℕ) (lp : p < m) (tp : tick p ≡ true) (sh : column held_of ps p n < target p) where
      module _ (b : ℕ) (hb : b < n) (h : 0 < moving_of (place_at ps (b * 8 + p))) where
        inside : b * 8 + p < length ps
        inside = omega (arith, K.long)

        -- where a switch is to be denied the bidder has an increase left
        some_rise : (q : ℕ) × (q < m) × (0 < rise_of (place_at (changed deny ps (b * 8 + p)) (b * 8 + q)))
        some_rise =
            let x = row_flat deny ps b p inside rise_of refl b m in
            let y = sum_ge (λ q. moving_of (place_at ps (b * 8 + q))) m p lp in
            sum_pos (λ q. rise_of (place_at (changed deny ps (b * 8 + p)) (b * 8 + q))) m (omega (arith, K.owed b hb))

        deny_by : (r : Option ℕ) → risen m (changed deny ps (b * 8 + p)) b ≡ r → Stepped m n p ps (cancel_by r (changed deny ps (b * 8 + p)) b)
        deny_by (Some q) e =
            let f = best_found (λ p'. ltb 0 (rise_of (place_at (changed deny ps (b * 8 + p)) (b * 8 + p')))) _ m q e in
            let l = f.0 in
            let s = length-set ps (b * 8 + p) (deny (place_at ps (b * 8 + p))) in
            deny_stepped m n hm ps b p hb lp inside h q l (omega (arith, K.long)) (ltb-true _ _ f.1)
            (each deny ps (b * 8 + p) inside (λ x y. rise_of x ≤ going_of x → rise_of y ≤ going_of y) (λ l g. g) (λ g. g) (b * 8 + q)
            (K.rises (b * 8 + q)))
        deny_by None e =
            let s = some_rise in
            let f = best_none (λ p'. ltb 0 (rise_of (place_at (changed deny ps (b * 8 + p)) (b * 8 + p')))) _ m e s.0 s.1 in
            let y = ltb-false 0 (rise_of (place_at (changed deny ps (b * 8 + p)) (b * 8 + s.0))) f in
            absurd (let x : ⊥ = omega (arith, s.2) in x)

        denied : Stepped m n p ps (deny_at m ps b p)
        denied = deny_by (risen m (changed deny ps (b * 8 + p)) b) refl

      -- what is kept, whichever is left
      step_by : (q r : Option ℕ) → leaver n draw ps p ≡ q → mover n draw ps p ≡ r
          → (can_keep n draw ps p ≡ true) × Stepped m n p ps (keep_step m n draw ps p)
      step_by (Some i) r e g =
          let f = best_found (λ i. ltb 0 (leaving_of (place_at ps (draw i * 8 + p)))) _ n i e in
          let l = range i f.0 in
          let s = retain_stepped m n hm ps (draw i) p l lp (omega (arith, K.long)) (ltb-true _ _ f.1) in
          (rw e, rw (retain_first m n draw ps p i e) s)
      step_by None (Some i) e g =
          let f = best_found (λ i. ltb 0 (moving_of (place_at ps (draw i * 8 + p)))) never n i g in
          (rw (e, g), rw (deny_next m n draw ps p i e g) (denied (draw i) (range i f.0) (ltb-true _ _ f.1)))
      step_by None None e g =
          let s = some_left p lp tp sh in
          let r = reach s.0 s.1 in
          let x = best_none (λ i. ltb 0 (leaving_of (place_at ps (draw i * 8 + p)))) _ n e r.0 r.1 in
          let y = best_none (λ i. ltb 0 (moving_of (place_at ps (draw i * 8 + p)))) never n g r.0 r.1 in
          let z = subst (λ b. 0 < left_of (place_at ps (b * 8 + p))) (sym r.2) s.2 in
          absurd (let x : ⊥ = omega (arith, ltb-false) in x)

      -- so one tranche can be kept, and is
      pub can_keep_lem : can_keep n draw ps p ≡ true
      can_keep_lem = (step_by (leaver n draw ps p) (mover n draw ps p) refl refl).0

      pub keep_stepped : Stepped m n p ps (keep_step m n draw ps p)
      keep_stepped = (step_by (leaver n draw ps p) (mover n draw ps p) refl refl).1

    -- a step leaves the places keepable
    module _ (ps' : List Place) (p : ℕ) (sh : column held_of ps p n < target p) (S : Stepped m n p ps ps') where
      -- what is held and left rises only by what is cancelled
      column_sum : (q : ℕ)
          → column held_of ps' q n + column left_of ps' q n + column rise_of ps q n ≡ column held_of ps q n + column left_of ps q n + column rise_of ps' q n
      column_sum q =
          sum_six (λ i. held_of (place_at ps' (i * 8 + q))) (λ i. left_of (place_at ps' (i * 8 + q))) (λ i. rise_of (place_at ps (i * 8 + q)))
          (λ i. held_of (place_at ps (i * 8 + q))) (λ i. left_of (place_at ps (i * 8 + q))) (λ i. rise_of (place_at ps' (i * 8 + q))) n
          (λ i _. omega (arith, S.moved (i * 8 + q)))

      settled_by : (q : ℕ) → q < m → tick q ≡ true → 0 < column kept_of ps' q n → (t : Bool) → eqb q p ≡ t
          → column held_of ps' q n ≤ target q
      settled_by q lq tq k true e = rw (eqb-true q p e) (omega (arith, S.held_here))
      settled_by q lq tq k false e =
          let d = eqb-false q p e in
          let x = S.kept_there q lq d in
          let y = K.settled q lq tq (omega arith) in
          omega (arith, S.held_there q lq d)

      pub keepable_step : Keepable m n target tick ps'
      keepable_step = record {
        long = omega (arith, S.long, K.long);
        full = λ q lq tq. omega (arith, K.full q lq tq, column_sum q);
        owed = λ b hb. omega (arith, K.owed b hb, S.owed b);
        rises = λ j. omega (arith, S.moved j, K.rises j);
        settled = λ q lq tq k. settled_by q lq tq k (eqb q p) refl;
      }

    -- with nothing left, nothing is short
    none_by : (p : ℕ) → p < m → every left_of ps n ≤ 0 → (t : Bool) → short n target tick ps p ≡ t → t ≡ false
    none_by p lp z true e =
        let s = some_left p lp (and_left (tick p) _ e) (below_true (column held_of ps p n) (target p) (and_right (tick p) _ e)) in
        let b = s.1 in
        let g = sum_ge (λ k. left_of (place_at ps k)) (n * 8) (s.0 * 8 + p) (omega arith) in
        absurd (let x : ⊥ = omega (arith, s.2) in x)
    none_by p lp z false e = refl

    pub none_short : every left_of ps n ≤ 0 → (p : ℕ) → p < m → short n target tick ps p ≡ false
    none_short z p lp = none_by p lp z (short n target tick ps p) refl

  -- each step keeps one
  kept_more : (ps ps' : List Place) (p : ℕ) → p < m → tick p ≡ true → Stepped m n p ps ps'
      → kept_where m n tick ps' ≡ kept_where m n tick ps + 1
  kept_more ps ps' p lp tp S =
      let s = sum_one (λ q. cond (tick q) (column kept_of ps' q n) 0) (λ q. cond (tick q) (column kept_of ps q n) 0) p m lp
      (λ q lq d. ap (λ x. cond (tick q) x 0) (S.kept_there q lq d)) in
      let x = ap (λ t. cond t (column kept_of ps' p n) 0) tp in
      let y = ap (λ t. cond t (column kept_of ps p n) 0) tp in
      omega (arith, S.kept_here)

  abbrev Ends : ℕ → Type 0
  Ends f =
      (ps : List Place) (c : ℕ) → Keepable m n target tick ps → every left_of ps n ≤ f
      → Ended m n target tick ps c (keep_loop m n target tick draw f ps c)

  loop_by : (f : ℕ) → Ends f → (ps : List Place) (c : ℕ) → Keepable m n target tick ps → every left_of ps n ≤ suc f
      → (q : Option ℕ) → first_up_to (short n target tick ps) m ≡ q
      → Ended m n target tick ps c (while_short q
      (λ p. cond (can_keep n draw ps p) (keep_loop m n target tick draw f (keep_step m n draw ps p) (c + 1)) (kept ps c)) (kept ps c))
  loop_by f go ps c K h (Some p) e =
      let g = best_found (short n target tick ps) never m p e in
      let tp = and_left (tick p) _ g.1 in
      let sh : column held_of ps p n < target p = below_true (column held_of ps p n) (target p) (and_right (tick p) _ g.1) in
      let S = keep_stepped ps K p g.0 tp sh in
      let r = go (keep_step m n draw ps p) (c + 1) (keepable_step ps K (keep_step m n draw ps p) p sh S) (omega (arith, S.left)) in
      rw (can_keep_lem ps K p g.0 tp sh) record {
        keepable = r.keepable;
        moved = λ j. moved_trans _ _ _ (S.moved j) (r.moved j);
        owed = λ b. omega (arith, S.owed b, r.owed b);
        none = r.none;
        counted = omega (arith, r.counted, kept_more ps (keep_step m n draw ps p) p g.0 tp S);
      }
  loop_by f go ps c K h None e = record {
    keepable = K;
    moved = λ j. moved_refl (place_at ps j);
    owed = λ b. omega arith;
    none = λ p lp. best_none (short n target tick ps) never m e p lp;
    counted = refl;
  }

  -- with fuel for every withdrawal and switch, step 2 ends with no ticked product short
  pub keep_ends : (f : ℕ) (ps : List Place) (c : ℕ) → Keepable m n target tick ps → every left_of ps n ≤ f
      → Ended m n target tick ps c (keep_loop m n target tick draw f ps c)
  unfolding keep_loop
  keep_ends zero ps c K h = record {
    keepable = K;
    moved = λ j. moved_refl (place_at ps j);
    owed = λ b. omega arith;
    none = none_short ps K h;
    counted = refl;
  }
  keep_ends (suc f) ps c K h = loop_by f (keep_ends f) ps c K h (first_up_to (short n target tick ps) m) refl

  -- the definition has that fuel
  pub kept_all_ends : (ps : List Place) → Keepable m n target tick ps → Ended m n target tick ps 0 (kept_all m n target tick draw ps)
  kept_all_ends ps K = keep_ends _ ps 0 K (omega arith)

-- a ticked product ends with its target at least, and with exactly it where something is kept
module _ (m n : ℕ) (target : ℕ → ℕ) (tick : ℕ → Bool) where
  met_by : (ps : List Place) (p : ℕ) → tick p ≡ true → (t : Bool) → tick p ≡ t
      → (t && below (standing (column held_of ps p n) (target p))) ≡ false → target p ≤ column held_of ps p n
  met_by ps p tp true e s = below_false (column held_of ps p n) (target p) s
  met_by ps p tp false e s = clash tp e

  pub kept_met : (ps : List Place) (c : ℕ) (k : Kept) → Ended m n target tick ps c k → (p : ℕ) → p < m → tick p ≡ true
      → (target p ≤ column held_of k.places p n) × (0 < column kept_of k.places p n → column held_of k.places p n ≡ target p)
  kept_met ps c k E p lp tp =
      let x = met_by k.places p tp (tick p) refl (E.none p lp) in
      (x, λ g. omega (arith, E.keepable.settled p lp tp g))
