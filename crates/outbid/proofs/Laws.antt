-- The ways through steps 3 and 4, against the definition. Assumes nothing.
use borrow.Author.Tests.{eqb-true, eqb-false, ltb-true, ltb-false, lt-ltb, le-ltb}
use mathlib.Core.Path.{◌≡◌, refl, sym, ◌∙◌, ap, ap₂, subst}
use mathlib.Core.Bool.{Bool, true, false, ◌&&◌, not, cond}
use mathlib.Core.List.{List}
use Prim.Native.Nat.{ℕ, zero, suc, ◌+◌, ◌-◌, ◌*◌, ◌%◌, ◌≤◌, ◌<◌}
use native.Mathlib.Omega.{arith}
use native.Mathlib.Nat.{add-zero}
use lib.ListN.{set, length}
use lib.Seq.{get_or-set_same, get_or-set_other, set-get_or}
use lib.Dec.{ltb, eqb}
use Rattle.std.specs.Prelude.{Option, None, Some}
use Rattle.rules.specs.declared.Tranches.{Tranches}
use Rattle.rules.specs.declared.Place.{Place}
use Rattle.rules.specs.Count.{pick_if, better, best_up_to, never}
use Rattle.rules.specs.Units.{tranches}
use Rattle.rules.specs.Held.{denied_in, retained_in, exit_in}
use Rattle.rules.specs.Accept.{nowhere, place_at, changed, column, row_of, held_of, kept_of, rise_of, deem, outbid_switch, outbid_withdrawal}
use Rattle.rules.specs.Outbid.{deem_if, deemed_up_to, outbid, freed, denied_one, retained_one, outbid_retained, outbid_by}
use Rattle.rules.proofs.Sums.{sum_ext, sum_one, best_found}
use Rattle.rules.proofs.Places.{each, column_at, column_beside}
use Rattle.rules.proofs.LotLaws.{outbid_total}
use Rattle.table.specs.declared.Next.{Next}
use Rattle.table.specs.Next.{nobody}
use Rattle.table.specs.Room.{Fits, Room}
use Rattle.table.proofs.Turns.{Apart, soonest_ext, soonest_at, next_nobody, next_first, next_second}
use Rattle.table.proofs.Laws.{room_set}
use Rattle.outbid.specs.Loss.{denied_of, turn_of, Again, turn_at, Small, Soonest, Known, free_at, Free, Lost}

-- ---- step 3

fits_if : (t : Bool) (l : Place) → Fits l → Fits (cond t (deem l) l)
fits_if true l f = record { outs = f.outs; switches = omega (arith, f.switches); rises = omega (arith, f.rises) }
fits_if false l f = f

pub fits_deem : (tick : Bool) (l : Place) → Fits l → Fits (deem_if tick l)
fits_deem tick l f = fits_if (not tick && ltb 0 (rise_of l)) l f

pub deemed_next : (tick : ℕ → Bool) (ps work : List Place) (k : ℕ) → work ≡ deemed_up_to tick ps k
    → changed (deem_if (tick (k % 8))) work k ≡ deemed_up_to tick ps (suc k)
unfolding deemed_up_to
deemed_next tick ps work k e = ap (λ w. changed (deem_if (tick (k % 8))) w k) e

-- ---- whose turn it is

-- the same order finds the same
module _ (has : ℕ → Bool) (s t : ℕ → ℕ → Bool) where
  better_by : (n : ℕ) (q : Option ℕ) → ((j : ℕ) → q ≡ Some j → s n j ≡ t n j) → better has s q n ≡ better has t q n
  better_by n None h = refl
  better_by n (Some j) h = ap (λ y. pick_if (has n && y) n (Some j)) (h j refl)

  best_same : (n : ℕ) → ((i j : ℕ) → i < n → j < n → s i j ≡ t i j) → best_up_to has s n ≡ best_up_to has t n
  best_same zero h = refl
  best_same (suc n) h =
      ap (λ q. better has s q n) (best_same n (λ i j l k. h i j (omega arith) (omega arith)))
      ∙ better_by n (best_up_to has t n) (λ j e. h n j (omega arith) (omega (arith, (best_found has t n j e).0)))

-- the highest exit price has the lowest turn
turned : (x y : ℕ) → x ≤ 4294967295 → y ≤ 4294967295 → (t : Bool) → ltb y x ≡ t → ltb (4294967296 - x) (4294967296 - y) ≡ ltb y x
turned x y l k true e = let h = ltb-true y x e in lt-ltb (4294967296 - x) (4294967296 - y) (omega arith) ∙ sym e
turned x y l k false e = let h = ltb-false y x e in le-ltb (4294967296 - x) (4294967296 - y) (omega arith) ∙ sym e

-- one bidder more is looked at
pub small_next : (draw : ℕ → ℕ) (ps : List Place) (p i : ℕ) → Small i draw ps p → exit_in (place_at ps (draw i * 8 + p)).holds ≤ 4294967295
    → Small (i + 1) draw ps p
small_next draw ps p i h x j l = at (eqb j i) refl
  where
    at : (t : Bool) → eqb j i ≡ t → exit_in (place_at ps (draw j * 8 + p)).holds ≤ 4294967295
    at true e = rw (eqb-true j i e) x
    at false e = let d = eqb-false j i e in h j (omega (arith, d))

module _ (n : ℕ) (draw : ℕ → ℕ) (ps : List Place) (p : ℕ) where
  abbrev denies : ℕ → Bool
  denies i = ltb 0 (denied_in (place_at ps (draw i * 8 + p)).holds)

  abbrev retains : ℕ → Bool
  retains i = ltb 0 (retained_in (place_at ps (draw i * 8 + p)).holds)

  abbrev exits : ℕ → ℕ
  exits i = exit_in (place_at ps (draw i * 8 + p)).holds

  abbrev late : ℕ → ℕ
  late i = 4294967296 - exits i

  -- a denied switch is outbid
  pub record Switch (j : ℕ) : Type 0 where
    pub first : denied_one n draw ps p ≡ Some j
    pub some : 0 < denied_in (place_at ps (draw j * 8 + p)).holds

  -- a retained withdrawal is outbid
  pub record Withdrawal (j : ℕ) : Type 0 where
    pub none : denied_one n draw ps p ≡ None
    pub first : retained_one n draw ps p ≡ Some j
    pub some : 0 < retained_in (place_at ps (draw j * 8 + p)).holds

  module _ (s : Next) (S : Soonest n draw ps p s) where
    apart : (i : ℕ) → i < n → Apart 1 0 (late i)
    apart i l = let x = S.small i l in record { below = omega arith; above = omega arith; some = omega arith }

    by_exit : best_up_to retains (λ i j. ltb (late i) (late j)) n ≡ retained_one n draw ps p
    by_exit =
        best_same retains _ _ n (λ i j l k. turned (exits i) (exits j) (S.small i l) (S.small j k) (ltb (exits j) (exits i)) refl)

    pub soonest_none : s.turn ≡ 4294967297 → (denied_one n draw ps p ≡ None) × (retained_one n draw ps p ≡ None)
    soonest_none z =
        let w = next_nobody denies retains (λ i. 0) late 1 n apart s S.is z in
        (w.0, sym by_exit ∙ w.1)

    pub soonest_switch : s.turn ≡ 0 → Switch s.at
    soonest_switch z =
        let e = next_first denies retains (λ i. 0) late 1 n apart s S.is (omega arith) (omega arith) in
        let f = best_found denies never n s.at e in
        record { first = e; some = ltb-true _ _ f.1 }

    module _ (d : s.turn ≡ 4294967297 → ⊥) where
      pub soonest_withdrawal : (s.turn ≡ 0 → ⊥) → Withdrawal s.at
      soonest_withdrawal z =
          let w = next_second denies retains (λ i. 0) late 1 n apart s S.is (omega (arith, z)) d in
          let f = best_found retains (λ i j. ltb (late i) (late j)) n s.at w.1 in
          record { none = w.0; first = sym by_exit ∙ w.1; some = ltb-true _ _ f.1 }

      pub soonest_drawn : s.at < n
      soonest_drawn = (soonest_at (turn_at n draw ps p) n s S.is d).0

  pub known_none : Known n draw ps p nobody
  known_none l = absurd (let x : ⊥ = omega arith in x)

  pub known_if : (s : Next) (t : Bool) → (t ≡ true → Known n draw ps p s) → Known n draw ps p (cond t s nobody)
  known_if s true h = h refl
  known_if s false h = known_none

  -- with the turn of a place as it was, the next is the same
  soonest_again : (k : ℕ) (x : Place) → k < length ps → turn_of x.holds ≡ turn_of (place_at ps k).holds
      → exit_in x.holds ≤ 4294967295 → (s : Next) → Soonest n draw ps p s → Soonest n draw (set ps k x) p s
  soonest_again k x l t e s S =
      let same = each (λ _. x) ps k l
      (λ a b. (turn_of b.holds ≡ turn_of a.holds) × (exit_in a.holds ≤ 4294967295 → exit_in b.holds ≤ 4294967295))
      (λ a. (refl, λ h. h)) (t, λ _. e) in
      record {
        is = S.is ∙ sym (soonest_ext _ _ n (λ i _. (same (draw i * 8 + p)).0));
        small = λ i l. (same (draw i * 8 + p)).1 (S.small i l);
      }

-- ---- what a bidder has denied, with the place of bidder b on product p stored anew

module _ (ps : List Place) (R : Room ps) (b p : ℕ) (lb : b < 32) (lp : p < 8) (x : Place) where
  row_here : row_of denied_of (set ps (b * 8 + p) x) b 8 + denied_of (place_at ps (b * 8 + p)) ≡ row_of denied_of ps b 8 + denied_of x
  row_here =
      let i : b * 8 + p < length ps = omega (arith, R.long) in
      let s = sum_one (λ i. denied_of (place_at (set ps (b * 8 + p) x) (b * 8 + i))) (λ i. denied_of (place_at ps (b * 8 + i))) p 8 lp
      (λ i _ d. ap denied_of (get_or-set_other ps (b * 8 + p) (b * 8 + i) x nowhere (λ e. d (omega arith)))) in
      let t = ap denied_of (get_or-set_same ps (b * 8 + p) x nowhere i) in
      omega arith

  row_there : (c : ℕ) → (c ≡ b → ⊥) → row_of denied_of (set ps (b * 8 + p) x) c 8 ≡ row_of denied_of ps c 8
  row_there c d =
      sum_ext (λ i. denied_of (place_at (set ps (b * 8 + p) x) (c * 8 + i))) (λ i. denied_of (place_at ps (c * 8 + i))) 8
      (λ i l. ap denied_of (get_or-set_other ps (b * 8 + p) (c * 8 + i) x nowhere (λ e. d (omega arith))))

  module _ (v : ℕ) (fs : List Tranches) (long : length fs ≡ 32) (F : Free fs ps) (e : v + denied_of x ≡ denied_of (place_at ps (b * 8 + p))) where
    free_by : (c : ℕ) → c < 32 → (t : Bool) → eqb c b ≡ t
        → free_at (set fs b (tranches (free_at fs b + v))) c + row_of denied_of (set ps (b * 8 + p) x) c 8 ≤ 60000
    free_by c l true f =
        let i : b < length fs = omega arith in
        let r = row_here in
        let g = ap (λ x. x.0) (get_or-set_same fs b (tranches (free_at fs b + v)) (tranches 0) i) in
        let w = F b lb in
        rw (eqb-true c b f) (omega arith)
    free_by c l false f =
        let d = eqb-false c b f in
        let g = ap (λ x. x.0) (get_or-set_other fs b c (tranches (free_at fs b + v)) (tranches 0) d) in
        let r = row_there c d in
        let w = F c l in
        omega arith

    -- what the bidder has no longer denied is what it has free
    pub free_set : Free (set fs b (tranches (free_at fs b + v))) (set ps (b * 8 + p) x)
    free_set c l = free_by c l (eqb c b) refl

-- nothing is freed
unpaid : (fs : List Tranches) (b : ℕ) → set fs b (tranches (free_at fs b + 0)) ≡ fs
unpaid fs b = ap (λ x. set fs b (tranches x)) (add-zero (free_at fs b)) ∙ set-get_or fs b (tranches 0)

-- ---- one tranche outbid

module _ (n : ℕ) (draw : ℕ → ℕ) (ps : List Place) (R : Room ps) (p : ℕ) (s : Next) (S : Soonest n draw ps p s) where
  pub lost_none : (l : Place) → l ≡ place_at ps 0 → s.turn ≡ 4294967297
      → Lost n draw ps p (record { at = 0; place = l; owner = 0; freed = 0; more = 0; next = s })
  lost_none l g z =
      let w = soonest_none n draw ps p s S z in
      let same = ap (set ps 0) g ∙ set-get_or ps 0 nowhere in
      let h = ap (λ qs. column held_of qs p n) same in
      let k = ap (λ qs. column kept_of qs p n) same in
      record {
        at = omega arith;
        owner = omega arith;
        freed = omega arith;
        more = omega arith;
        makes = λ fs c.
            ap₂ (λ ps fs. outbid ps fs (c + 0)) same (unpaid fs 0) ∙ ap (outbid ps fs) (add-zero c)
            ∙ sym (ap (λ q. outbid_by n draw q (outbid ps fs c) p) w.0 ∙ ap (λ q. outbid_retained draw q (outbid ps fs c) p) w.1);
        room = subst Room (sym same) R;
        free = λ fs l F. subst (λ ps. Free (set fs 0 (tranches (free_at fs 0 + 0))) ps) (sym same) (subst (λ fs. Free fs ps) (sym (unpaid fs 0)) F);
        held = omega arith;
        kept = omega arith;
        known = λ l. absurd (let x : ⊥ = omega arith in x);
        beside = λ f q _ _. ap (λ qs. column f qs q n) same;
      }

  module _ (b : ℕ) (x : Place) (d : b ≡ draw s.at) (ln : n ≤ 32) (lb : b < n) (lp : p < 8) where
    abbrev k : ℕ
    k = b * 8 + p

    in_place : k < length ps
    in_place = omega (arith, R.long)

    -- so much less at the place, and so of its product
    module _ (f : Place → ℕ) (v : ℕ) (e : f x + v ≡ f (place_at ps k)) where
      column_less : column f (set ps k x) p n + v ≡ column f ps p n
      column_less = let c = column_at (λ _. x) ps b p in_place f n lb in omega arith

    column_same : (f : Place → ℕ) (q : ℕ) → q < 8 → (q ≡ p → ⊥) → column f (set ps k x) q n ≡ column f ps q n
    column_same f q lq u = column_beside (λ _. x) ps b p in_place f q n lp lq u

    -- the bidder found is known to be next again where its turn is as it was
    known_again : (s.turn ≡ 4294967297 → ⊥) → (next : Next) → Again s x.holds next → Known n draw (set ps k x) p next
    known_again u next A =
        let here = (soonest_at (turn_at n draw ps p) n s S.is u).1 ∙ ap (λ b. turn_of (place_at ps (b * 8 + p)).holds) (sym d) in
        subst (Known n draw (set ps k x) p) (sym A.is)
        (known_if n draw (set ps k x) p s (eqb (turn_of x.holds) s.turn)
        (λ i _. soonest_again n draw ps p k x in_place (eqb-true _ _ i ∙ here) A.exit s S))

    -- the place is that of the bidder found
    at_drawn : (P : Place → Type 0) → P (place_at ps (draw s.at * 8 + p)) → P (place_at ps k)
    at_drawn P h = subst (λ b. P (place_at ps (b * 8 + p))) (sym d) h

    pub some_denied : s.turn ≡ 0 → 0 < denied_of (place_at ps k)
    some_denied z = at_drawn (λ l. 0 < denied_of l) (soonest_switch n draw ps p s S z).some

    module _ (u : s.turn ≡ 4294967297 → ⊥) (z : s.turn ≡ 0 → ⊥) where
      some_retained : 0 < retained_in (place_at ps k).holds
      some_retained = at_drawn (λ l. 0 < retained_in l.holds) (soonest_withdrawal n draw ps p s S u z).some

      pub lost_withdrawal : x ≡ outbid_withdrawal (place_at ps k)
          → (next : Next) → Again s x.holds next
          → Lost n draw ps p (record { at = k; place = x; owner = b; freed = 0; more = 1; next = next })
      lost_withdrawal g next A =
          let W = soonest_withdrawal n draw ps p s S u z in
          let F = R.each k in
          let fewer = outbid_total (place_at ps k).holds.retained some_retained in
          let gone : Fits (outbid_withdrawal (place_at ps k)) =
          record { outs = omega (arith, F.outs); switches = F.switches; rises = F.rises } in
          let same = ap denied_of g in
          let h = ap held_of g in
          let i = ap kept_of g in
          record {
            at = omega arith;
            owner = omega arith;
            freed = omega arith;
            more = omega arith;
            makes = λ fs c.
                ap₂ (λ ps fs. outbid ps fs (c + 1)) (ap (set ps k) g ∙ ap (λ b. changed outbid_withdrawal ps (b * 8 + p)) d) (unpaid fs b)
                ∙ sym (ap (λ q. outbid_by n draw q (outbid ps fs c) p) W.none
                ∙ ap (λ q. outbid_retained draw q (outbid ps fs c) p) W.first);
            room = room_set ps R k x (omega arith) (subst Fits (sym g) gone);
            free = λ fs l E. free_set ps R b p (omega arith) lp x 0 fs l E (omega arith);
            held = column_less held_of 1 (omega arith);
            kept = column_less kept_of 1 (omega arith);
            known = known_again u next A;
            beside = column_same;
          }

    pub lost_switch : s.turn ≡ 0 → x ≡ outbid_switch (place_at ps k)
        → (next : Next) → Again s x.holds next
        → Lost n draw ps p (record { at = k; place = x; owner = b; freed = 1; more = 1; next = next })
    lost_switch z g next A =
        let W = soonest_switch n draw ps p s S z in
        let F = R.each k in
        let some = some_denied z in
        let gone : Fits (outbid_switch (place_at ps k)) =
        record { outs = F.outs; switches = omega (arith, F.switches); rises = F.rises } in
        let less = ap denied_of g in
        let h = ap held_of g in
        let i = ap kept_of g in
        record {
          at = omega arith;
          owner = omega arith;
          freed = omega arith;
          more = omega arith;
          makes = λ fs c.
              ap₂ (λ ps fs. outbid ps fs (c + 1)) (ap (set ps k) g ∙ ap (λ b. changed outbid_switch ps (b * 8 + p)) d) (ap (freed fs) d)
              ∙ sym (ap (λ q. outbid_by n draw q (outbid ps fs c) p) W.first);
          room = room_set ps R k x (omega arith) (subst Fits (sym g) gone);
          free = λ fs l E. free_set ps R b p (omega arith) lp x 1 fs l E (omega arith);
          held = column_less held_of 1 (omega arith);
          kept = column_less kept_of 1 (omega arith);
          known = known_again (λ e. omega arith) next A;
          beside = column_same;
        }
