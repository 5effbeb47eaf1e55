-- Steps 3 and 4: what is deemed bid stays held, and outbidding ends at the target. Assumes nothing.
use mathlib.Core.Path.{◌≡◌, refl, sym, ◌∙◌, ap, subst}
use mathlib.Core.Bool.{Bool, true, false, ◌&&◌, not, cond}
use mathlib.Core.List.{List}
use Prim.Native.Nat.{ℕ, zero, suc, ◌+◌, ◌*◌, ◌%◌, ◌≤◌, ◌<◌}
use native.Mathlib.Omega.{arith}
use borrow.Author.Tests.{eqb-true, eqb-false, ltb-true, ltb-false, not-true}
use lib.ListN.{length, get_or, length-set}
use lib.Seq.{get_or-set_same, get_or-set_other}
use lib.Dec.{eqb, ltb}
use Rattle.std.specs.Prelude.{Option, None, Some}
use Rattle.rules.specs.declared.Tranches.{Tranches}
use Rattle.rules.specs.declared.Place.{Place}
use Rattle.rules.specs.declared.Outbid.{Outbid}
use Rattle.rules.specs.Count.{sum_up_to, first_up_to, never}
use Rattle.rules.specs.Units.{tranches}
use Rattle.rules.specs.Lots.{Ordered, AllWithin}
use Rattle.rules.specs.Held.{standing, above}
use Rattle.rules.specs.Accept.{place_at, changed, held_of, kept_of, rise_of, deem, outbid_switch, outbid_withdrawal, column, row_of, every}
use Rattle.rules.specs.Outbid.{outbid, freed, deem_if, deemed_up_to, over, denied_one, retained_one, outbid_retained, outbid_by, outbid_step, while_over, outbid_loop}
use Rattle.rules.proofs.Sums.{sum_ge, sum_pos, sum_one, and_left, and_right, best_found, best_none}
use Rattle.rules.proofs.Lists.{clash}
use Rattle.rules.proofs.LotLaws.{outbid_total, outbid_less, outbid_within, outbid_ordered, within_refl, within_trans}
use Rattle.rules.proofs.Signed.{above_true}
use Rattle.rules.proofs.Places.{going_of, denied_of, retained_of, worth_of, place_other, each, column_at, column_beside, row_at, row_beside, every_at, row_flat}

-- bidder b's entry in a list of free eligibilities
abbrev pub free_at : List Tranches → ℕ → ℕ
free_at fs b = (get_or fs b (tranches 0)).0

-- a place before and after step 3
pub record Deemed (x y : Place) : Type 0 where
  pub worth : worth_of y ≡ worth_of x
  pub retained : retained_of y ≡ retained_of x
  pub going : going_of x ≤ going_of y
  pub lots : y.holds.retained ≡ x.holds.retained

pub deemed_refl : (x : Place) → Deemed x x
deemed_refl x = record { worth = refl; retained = refl; going = omega arith; lots = refl }

deem_by : (t : Bool) (l : Place) → Deemed l (cond t (deem l) l)
deem_by true l = record { worth = omega arith; retained = refl; going = omega arith; lots = refl }
deem_by false l = deemed_refl l

-- step 3 looks at each of the first k places once
module _ (tick : ℕ → Bool) (ps : List Place) where
  pub deemed_long : (k : ℕ) → length (deemed_up_to tick ps k) ≡ length ps
  unfolding deemed_up_to
  deemed_long zero = refl
  deemed_long (suc k) = length-set (deemed_up_to tick ps k) k _ ∙ deemed_long k

  pub deemed_later : (k j : ℕ) → k ≤ j → place_at (deemed_up_to tick ps k) j ≡ place_at ps j
  unfolding deemed_up_to
  deemed_later zero j h = refl
  deemed_later (suc k) j h =
      get_or-set_other (deemed_up_to tick ps k) k j _ _ (λ e. omega arith) ∙ deemed_later k j (omega arith)

  pub deemed_exact : (k j : ℕ) → k ≤ length ps → j < k → place_at (deemed_up_to tick ps k) j ≡ deem_if (tick (j % 8)) (place_at ps j)
  unfolding deemed_up_to
  deemed_exact zero j h l = absurd (let x : ⊥ = omega arith in x)
  deemed_exact (suc k) j h l = by (eqb j k) refl (deemed_exact k j (omega arith))
    where
      by : (t : Bool) → eqb j k ≡ t → (j < k → place_at (deemed_up_to tick ps k) j ≡ deem_if (tick (j % 8)) (place_at ps j))
          → place_at (deemed_up_to tick ps (suc k)) j ≡ deem_if (tick (j % 8)) (place_at ps j)
      by true e r =
          rw (eqb-true j k e) (
          get_or-set_same (deemed_up_to tick ps k) k _ _ (omega (arith, deemed_long k))
          ∙ ap (deem_if (tick (k % 8))) (deemed_later k k (omega arith)))
      by false e r =
          let d = eqb-false j k e in
          get_or-set_other (deemed_up_to tick ps k) k j _ _ d ∙ r (omega (arith, d))

  module _ (k : ℕ) (h : k ≤ length ps) where
    pub deemed_each : (j : ℕ) → Deemed (place_at ps j) (place_at (deemed_up_to tick ps k) j)
    deemed_each j = by (ltb j k) refl
      where
        by : (t : Bool) → ltb j k ≡ t → Deemed (place_at ps j) (place_at (deemed_up_to tick ps k) j)
        by true e = rw (deemed_exact k j h (ltb-true j k e)) (deem_by (not (tick (j % 8)) && ltb 0 (rise_of (place_at ps j))) (place_at ps j))
        by false e = rw (deemed_later k j (ltb-false j k e)) (deemed_refl (place_at ps j))

    -- and changes nothing on a product that ticked
    pub deemed_not : (j : ℕ) → tick (j % 8) ≡ true → place_at (deemed_up_to tick ps k) j ≡ place_at ps j
    deemed_not j t = by (ltb j k) refl
      where
        by : (u : Bool) → ltb j k ≡ u → place_at (deemed_up_to tick ps k) j ≡ place_at ps j
        by true e = deemed_exact k j h (ltb-true j k e) ∙ ap (λ u. deem_if u (place_at ps j)) t
        by false e = deemed_later k j (ltb-false j k e)

-- a place before and after step 4
pub record Outed (x y : Place) : Type 0 where
  pub going : going_of y ≡ going_of x
  pub denied : denied_of y ≤ denied_of x
  pub retained : retained_of y ≤ retained_of x
  pub lots : AllWithin x.holds.retained y.holds.retained
  pub order : Ordered x.holds.retained → Ordered y.holds.retained

-- no step, one after another, and the two kinds
pub outed_refl : (x : Place) → Outed x x
outed_refl x =
    record { going = refl; denied = omega arith; retained = omega arith; lots = within_refl x.holds.retained; order = λ o. o }

pub outed_trans : (x y z : Place) → Outed x y → Outed y z → Outed x z
outed_trans x y z f g = record {
  going = omega arith;
  denied = omega arith;
  retained = omega arith;
  lots = within_trans _ _ _ f.lots g.lots;
  order = λ o. g.order (f.order o);
}

outed_switch : (x : Place) → Outed x (outbid_switch x)
outed_switch x =
    record { going = refl; denied = omega arith; retained = omega arith; lots = within_refl x.holds.retained; order = λ o. o }

outed_withdrawal : (x : Place) → Outed x (outbid_withdrawal x)
outed_withdrawal x = record {
  going = refl;
  denied = omega arith;
  retained = outbid_less x.holds.retained;
  lots = outbid_within x.holds.retained;
  order = outbid_ordered x.holds.retained;
}

-- the kept tranches on the products that did not tick
abbrev pub kept_elsewhere : ℕ → ℕ → (ℕ → Bool) → List Place → ℕ
kept_elsewhere m n tick ps = sum_up_to (λ p. cond (tick p) 0 (column kept_of ps p n)) m

-- what one step on product p does
pub record OutStepped (m n p : ℕ) (s s' : Outbid) : Type 0 where
  pub long : length s'.places ≡ length s.places
  pub long_free : length s'.free ≡ length s.free
  pub outed : (j : ℕ) → Outed (place_at s.places j) (place_at s'.places j)
  pub others : (j : ℕ) → (j % 8 ≡ p → ⊥) → place_at s'.places j ≡ place_at s.places j
  pub here : column held_of s'.places p n + 1 ≡ column held_of s.places p n
  pub there : (q : ℕ) → q < m → (q ≡ p → ⊥) → column held_of s'.places q n ≡ column held_of s.places q n
  pub kept_here : column kept_of s'.places p n + 1 ≡ column kept_of s.places p n
  pub kept_there : (q : ℕ) → q < m → (q ≡ p → ⊥) → column kept_of s'.places q n ≡ column kept_of s.places q n
  pub fuel : every kept_of s'.places n + 1 ≡ every kept_of s.places n
  pub steps : s'.count ≡ s.count + 1
  pub worth : (b : ℕ) → row_of worth_of s'.places b m + free_at s'.free b ≡ row_of worth_of s.places b m + free_at s.free b

module _ (m n : ℕ) (hm : m ≤ 8) (s : Outbid) (b p : ℕ) (hb : b < n) (hp : p < m)
    (long : b * 8 + p < length s.places) (room : b < length s.free) where
  abbrev ps : List Place
  ps = s.places

  -- a withdrawal outbid
  pub retained_stepped : 0 < retained_of (place_at s.places (b * 8 + p)) → (fs : List Tranches) (k : ℕ)
      → ((c : ℕ) → free_at fs c ≡ free_at s.free c) → length fs ≡ length s.free → k ≡ s.count + 1
      → OutStepped m n p s (outbid (changed outbid_withdrawal s.places (b * 8 + p)) fs k)
  retained_stepped h fs k free-same lf ek = record {
    long = length-set ps (b * 8 + p) _;
    long_free = lf;
    outed = each outbid_withdrawal ps (b * 8 + p) long Outed outed_refl (outed_withdrawal _);
    others = λ j d. place_other outbid_withdrawal ps (b * 8 + p) long j (λ e. d (omega arith));
    here = let x = column_at outbid_withdrawal ps b p long held_of n hb in omega (arith, outbid_total (place_at ps (b * 8 + p)).holds.retained h);
    there = λ q l d. column_beside outbid_withdrawal ps b p long held_of q n (omega arith) (omega arith) d;
    kept_here = let x = column_at outbid_withdrawal ps b p long kept_of n hb in omega (arith, outbid_total (place_at ps (b * 8 + p)).holds.retained h);
    kept_there = λ q l d. column_beside outbid_withdrawal ps b p long kept_of q n (omega arith) (omega arith) d;
    fuel = let x = every_at outbid_withdrawal ps b p long kept_of n hb (omega arith) in omega (arith, outbid_total (place_at ps (b * 8 + p)).holds.retained h);
    steps = ek;
    worth = λ c. let x = row_flat outbid_withdrawal ps b p long worth_of refl c m in omega (arith, free-same c);
  }

  -- a denied switch outbid
  module _ (h : 0 < denied_of (place_at s.places (b * 8 + p))) where
    worth_by : (c : ℕ) (t : Bool) → eqb c b ≡ t
        → row_of worth_of (changed outbid_switch ps (b * 8 + p)) c m + free_at (freed s.free b) c ≡ row_of worth_of ps c m + free_at s.free c
    worth_by c true e =
        rw (eqb-true c b e) (
        let x = row_at outbid_switch ps b p long worth_of m hp in
        let y = ap (λ f. f.0) (get_or-set_same s.free b (tranches (free_at s.free b + 1)) (tranches 0) room) in
        omega arith)
    worth_by c false e =
        let d = eqb-false c b e in
        let x = row_beside outbid_switch ps b p long worth_of c m (omega arith) hm d in
        let y = ap (λ f. f.0) (get_or-set_other s.free b c (tranches (free_at s.free b + 1)) (tranches 0) d) in
        omega arith

    pub denied_stepped : OutStepped m n p s (outbid (changed outbid_switch s.places (b * 8 + p)) (freed s.free b) (s.count + 1))
    denied_stepped = record {
      long = length-set ps (b * 8 + p) _;
      long_free = length-set s.free b _;
      outed = each outbid_switch ps (b * 8 + p) long Outed outed_refl (outed_switch _);
      others = λ j d. place_other outbid_switch ps (b * 8 + p) long j (λ e. d (omega arith));
      here = let x = column_at outbid_switch ps b p long held_of n hb in omega arith;
      there = λ q l d. column_beside outbid_switch ps b p long held_of q n (omega arith) (omega arith) d;
      kept_here = let x = column_at outbid_switch ps b p long kept_of n hb in omega arith;
      kept_there = λ q l d. column_beside outbid_switch ps b p long kept_of q n (omega arith) (omega arith) d;
      fuel = let x = every_at outbid_switch ps b p long kept_of n hb (omega arith) in omega arith;
      steps = refl;
      worth = λ c. worth_by c (eqb c b) refl;
    }

-- what is left when outbidding ends
pub record OutEnded (m n : ℕ) (target : ℕ → ℕ) (tick : ℕ → Bool) (s s' : Outbid) : Type 0 where
  pub long : length s'.places ≡ length s.places
  pub long_free : length s'.free ≡ length s.free
  pub outed : (j : ℕ) → Outed (place_at s.places j) (place_at s'.places j)
  pub same : (j : ℕ) → tick (j % 8) ≡ true → place_at s'.places j ≡ place_at s.places j
  pub none : (p : ℕ) → p < m → over n target tick s'.places p ≡ false
  pub floor : (p x : ℕ) → p < m → x ≤ target p → x ≤ column held_of s.places p n → x ≤ column held_of s'.places p n
  pub still : (p : ℕ) → p < m → tick p ≡ true → column held_of s'.places p n ≡ column held_of s.places p n
  pub still_kept : (p : ℕ) → p < m → tick p ≡ true → column kept_of s'.places p n ≡ column kept_of s.places p n
  pub counted : s'.count + kept_elsewhere m n tick s'.places ≡ s.count + kept_elsewhere m n tick s.places
  pub worth : (b : ℕ) → row_of worth_of s'.places b m + free_at s'.free b ≡ row_of worth_of s.places b m + free_at s.free b

module _ (m n : ℕ) (target : ℕ → ℕ) (tick : ℕ → Bool) (draw : ℕ → ℕ) (hm : m ≤ 8)
    (range : (i : ℕ) → i < n → draw i < n) (reach : (b : ℕ) → b < n → (i : ℕ) × (i < n) × (draw i ≡ b)) where
  module _ (s : Outbid) (long : n * 8 ≤ length s.places) (room : n ≤ length s.free) (p : ℕ) (lp : p < m)
      (some : 0 < column kept_of s.places p n) where
    retained_by : ((i : ℕ) → i < n → denied_of (place_at s.places (draw i * 8 + p)) ≤ 0)
        → (r : Option ℕ) → retained_one n draw s.places p ≡ r
        → OutStepped m n p s (outbid_retained draw r s p)
    retained_by z (Some i) e =
        let f = best_found (λ i. ltb 0 (retained_of (place_at s.places (draw i * 8 + p)))) _ n i e in
        let l = range i f.0 in
        retained_stepped m n hm s (draw i) p l lp (omega arith) (omega arith) (ltb-true _ _ f.1) _ _ (λ c. refl) refl (omega arith)
    retained_by z None e =
        let k = sum_pos (λ b. kept_of (place_at s.places (b * 8 + p))) n some in
        let r = reach k.0 k.1 in
        let f = best_none (λ i. ltb 0 (retained_of (place_at s.places (draw i * 8 + p)))) _ n e r.0 r.1 in
        let g = subst (λ b. 0 < kept_of (place_at s.places (b * 8 + p))) (sym r.2) k.2 in
        let y = ltb-false 0 (retained_of (place_at s.places (draw r.0 * 8 + p))) f in
        absurd (let x : ⊥ = omega (arith, z r.0 r.1) in x)

    denied_by : (r : Option ℕ) → denied_one n draw s.places p ≡ r → OutStepped m n p s (outbid_by n draw r s p)
    denied_by (Some i) e =
        let f = best_found (λ i. ltb 0 (denied_of (place_at s.places (draw i * 8 + p)))) never n i e in
        let l = range i f.0 in
        denied_stepped m n hm s (draw i) p l lp (omega arith) (omega arith) (ltb-true _ _ f.1)
    denied_by None e =
        retained_by (λ i l. ltb-false _ _ (best_none (λ i. ltb 0 (denied_of (place_at s.places (draw i * 8 + p)))) never n e i l))
        (retained_one n draw s.places p) refl

    -- where something is kept, one tranche is outbid
    pub out_stepped : OutStepped m n p s (outbid_step n draw s p)
    out_stepped = denied_by (denied_one n draw s.places p) refl

  -- with nothing kept, nothing is to be outbid
  over_none : (ps : List Place) → every kept_of ps n ≤ 0 → (p : ℕ) → p < m → (t : Bool) → over n target tick ps p ≡ t → t ≡ false
  over_none ps z p lp true e =
      let k = ltb-true 0 (column kept_of ps p n) (and_right (above (standing (column held_of ps p n) (target p))) _ (and_right (not (tick p)) _ e)) in
      let s = sum_pos (λ b. kept_of (place_at ps (b * 8 + p))) n k in
      let l = s.1 in
      let g = sum_ge (λ k. kept_of (place_at ps k)) (n * 8) (s.0 * 8 + p) (omega arith) in
      absurd (let x : ⊥ = omega (arith, s.2) in x)
  over_none ps z p lp false e = refl

  stays : (s : Outbid) → ((p : ℕ) → p < m → over n target tick s.places p ≡ false) → OutEnded m n target tick s s
  stays s h = record {
    long = refl;
    long_free = refl;
    outed = λ j. outed_refl (place_at s.places j);
    same = λ j t. refl;
    none = h;
    floor = λ p x lp a b. b;
    still = λ p lp t. refl;
    still_kept = λ p lp t. refl;
    counted = refl;
    worth = λ b. refl;
  }

  module _ (s s' s'' : Outbid) (p : ℕ) (lp : p < m) (tp : tick p ≡ false) (ov : target p < column held_of s.places p n)
      (S : OutStepped m n p s s') (E : OutEnded m n target tick s' s'') where
    floor_by : (q x : ℕ) → q < m → x ≤ target q → x ≤ column held_of s.places q n → (t : Bool) → eqb q p ≡ t
        → x ≤ column held_of s'.places q n
    floor_by q x lq a h true e =
        let d = eqb-true q p e in
        let a' = subst (λ z. x ≤ target z) d a in
        rw d (omega (arith, S.here))
    floor_by q x lq a h false e = omega (arith, S.there q lq (eqb-false q p e))

    apart : (q : ℕ) → tick q ≡ true → q ≡ p → ⊥
    apart q tq e = clash (subst (λ z. tick z ≡ true) e tq) tp

    kept_less : kept_elsewhere m n tick s'.places + 1 ≡ kept_elsewhere m n tick s.places
    kept_less =
        let x = sum_one (λ q. cond (tick q) 0 (column kept_of s'.places q n)) (λ q. cond (tick q) 0 (column kept_of s.places q n)) p m lp
        (λ q lq d. ap (λ z. cond (tick q) 0 z) (S.kept_there q lq d)) in
        let y = ap (λ t. cond t 0 (column kept_of s'.places p n)) tp in
        let z = ap (λ t. cond t 0 (column kept_of s.places p n)) tp in
        omega (arith, S.kept_here)

    -- one step and the rest
    goes : OutEnded m n target tick s s''
    goes = record {
      long = E.long ∙ S.long;
      long_free = E.long_free ∙ S.long_free;
      outed = λ j. outed_trans _ _ _ (S.outed j) (E.outed j);
      same = λ j t. E.same j t ∙ S.others j (apart (j % 8) t);
      none = E.none;
      floor = λ q x lq a h. E.floor q x lq a (floor_by q x lq a h (eqb q p) refl);
      still = λ q lq tq. E.still q lq tq ∙ S.there q lq (apart q tq);
      still_kept = λ q lq tq. E.still_kept q lq tq ∙ S.kept_there q lq (apart q tq);
      counted = omega (arith, E.counted, kept_less, S.steps);
      worth = λ b. E.worth b ∙ S.worth b;
    }

  abbrev Ends : ℕ → Type 0
  Ends f =
      (s : Outbid) → n * 8 ≤ length s.places → n ≤ length s.free → every kept_of s.places n ≤ f
      → OutEnded m n target tick s (outbid_loop m n target tick draw f s)

  loop_by : (f : ℕ) → Ends f
      → (s : Outbid) → n * 8 ≤ length s.places → n ≤ length s.free → every kept_of s.places n ≤ suc f
      → (q : Option ℕ) → first_up_to (over n target tick s.places) m ≡ q
      → OutEnded m n target tick s (while_over q (λ p. outbid_loop m n target tick draw f (outbid_step n draw s p)) s)
  loop_by f go s hl hf h (Some p) e =
      let g = best_found (over n target tick s.places) never m p e in
      let l = g.0 in
      let tp = not-true (tick p) (and_left (not (tick p)) _ g.1) in
      let w = and_right (not (tick p)) _ g.1 in
      let ov = above_true (column held_of s.places p n) (target p) (and_left _ (ltb 0 (column kept_of s.places p n)) w) in
      let some = ltb-true 0 (column kept_of s.places p n) (and_right (above (standing (column held_of s.places p n) (target p))) _ w) in
      let S = out_stepped s hl hf p l some in
      let s' = outbid_step n draw s p in
      goes s s' (outbid_loop m n target tick draw f s') p l tp ov S
      (go s' (omega (arith, S.long)) (omega (arith, S.long_free)) (omega (arith, S.fuel)))
  loop_by f go s hl hf h None e = stays s (best_none (over n target tick s.places) never m e)

  -- with fuel for every kept tranche, step 4 ends with nothing to outbid
  pub out_ends : (f : ℕ) (s : Outbid) → n * 8 ≤ length s.places → n ≤ length s.free → every kept_of s.places n ≤ f
      → OutEnded m n target tick s (outbid_loop m n target tick draw f s)
  unfolding outbid_loop
  out_ends zero s hl hf h = stays s (λ p lp. over_none s.places h p lp (over n target tick s.places p) refl)
  out_ends (suc f) s hl hf h = loop_by f (out_ends f) s hl hf h (first_up_to (over n target tick s.places) m) refl
