-- The loop of step 4: what is left gives the same answer after every tranche outbid. Assumes nothing.
use mathlib.Core.Path.{◌≡◌, refl, sym, ◌∙◌, ap, ap₂, subst}
use mathlib.Core.Bool.{Bool, true, false, ◌&&◌, not, cond}
use mathlib.Core.List.{List}
use Prim.Native.Nat.{ℕ, zero, suc, ◌+◌, ◌-◌, ◌*◌, ◌≤◌, ◌<◌}
use native.Mathlib.Omega.{arith}
use borrow.Author.Tests.{eqb-true, eqb-false}
use lib.ListN.{get_or, set, length, length-set, replicate, length-replicate, get_or-replicate}
use lib.Seq.{get_or-set_same, get_or-set_other}
use lib.Dec.{eqb, ltb}
use Rattle.std.specs.Prelude.{Option, None, Some}
use Rattle.rules.specs.declared.Tranches.{Tranches}
use Rattle.rules.specs.declared.Place.{Place}
use Rattle.rules.specs.declared.Outbid.{Outbid}
use Rattle.rules.specs.Count.{sum_up_to, first_up_to, never}
use Rattle.rules.specs.Units.{tranches}
use Rattle.rules.specs.Held.{standing, above}
use Rattle.rules.specs.Accept.{place_at, column, held_of, kept_of}
use Rattle.rules.specs.Outbid.{outbid, while_over, outbid_step, over, outbid_loop, outbid_all}
use Rattle.rules.specs.Round.{drawn}
use Rattle.rules.proofs.Sums.{best_found}
use Rattle.table.specs.Drawn.{Drawn}
use Rattle.held.specs.Ticks.{is_one}
use Rattle.table.specs.declared.Next.{Next}
use Rattle.table.specs.Next.{nobody}
use Rattle.table.specs.Room.{Room, Sums, target_on}
use Rattle.table.proofs.Laws.{first_ext, first_before, column_small}
use Rattle.outbid.specs.declared.Loss.{Loss}
use Rattle.outbid.specs.Loss.{Counted, Summed, less_of, AsMuch, over_by, Looking, denied_of, Free, paid, Known, Asked, Lost}
use Rattle.outbid.proofs.Laws.{known_none, known_if}

-- ---- one turn of the definition

module _ (m n : ℕ) (target : ℕ → ℕ) (tick : ℕ → Bool) (draw : ℕ → ℕ) (s : Outbid) where
  loop_none : (f : ℕ) → first_up_to (over n target tick s.places) m ≡ None → outbid_loop m n target tick draw f s ≡ s
  unfolding outbid_loop
  loop_none zero e = refl
  loop_none (suc f) e = ap (λ q. while_over q (λ p. outbid_loop m n target tick draw f (outbid_step n draw s p)) s) e

  loop_step : (f p : ℕ) → first_up_to (over n target tick s.places) m ≡ Some p
      → outbid_loop m n target tick draw (suc f) s ≡ outbid_loop m n target tick draw f (outbid_step n draw s p)
  unfolding outbid_loop
  loop_step f p e = ap (λ q. while_over q (λ p. outbid_loop m n target tick draw f (outbid_step n draw s p)) s) e

  loop_out : (f : ℕ) → f ≤ 0 → outbid_loop m n target tick draw f s ≡ s
  unfolding outbid_loop
  loop_out zero l = refl
  loop_out (suc f) l = absurd (let z : ⊥ = omega arith in z)

-- ---- one turn of the code

row_small : (ps : List Place) → Room ps → (b m : ℕ) → sum_up_to (λ p. denied_of (place_at ps (b * 8 + p))) m ≤ 7500 * m
row_small ps R b zero = omega arith
row_small ps R b (suc m) = let r = row_small ps R b m in omega (arith, (R.each (b * 8 + m)).switches)

none_free : (ps : List Place) → Room ps → Free (replicate 32 (tranches 0)) ps
none_free ps R b l =
    let z = ap (λ x. x.0) (get_or-replicate 32 b (tranches 0) (tranches 0) l) in
    let r = row_small ps R b 8 in
    omega arith

-- a sum of product p less by what the product lost
sums_less : (f : Place → ℕ) (ps qs : List Place) (n : ℕ) (sums : List ℕ) (p by : ℕ) → p < 8 → Sums f sums ps n
    → column f qs p n + by ≡ column f ps p n → ((q : ℕ) → q < 8 → (q ≡ p → ⊥) → column f qs q n ≡ column f ps q n)
    → Sums f (less_of sums p by) qs n
sums_less f ps qs n sums p by lp S h t =
    record { long = length-set sums p _ ∙ S.long; each = λ q lq. at q lq (eqb q p) refl }
  where
    at : (q : ℕ) → q < 8 → (b : Bool) → eqb q p ≡ b → get_or (less_of sums p by) q 0 ≡ column f qs q n
    at q lq true e =
        let s = S.each p lp in
        let i : p < length sums = omega (arith, S.long) in
        let w : get_or sums p 0 - by ≡ column f qs p n = omega arith in
        rw (eqb-true q p e, get_or-set_same) w
    at q lq false e =
        let d = eqb-false q p e in
        rw get_or-set_other (S.each q lq ∙ sym (t q lq d))

module _ (m n : ℕ) (targets ticks order : List ℕ) (ps₀ : List Place) where
  abbrev pub rest : ℕ → Outbid → Outbid
  rest fuel s = outbid_loop m n (target_on targets) (is_one ticks) (drawn order) fuel s

  abbrev pub whole : Outbid
  whole = outbid_all m n (target_on targets) (is_one ticks) (drawn order) ps₀ (replicate 32 (tranches 0))

  -- no product before `start` is over
  pub record Turn (ps : List Place) (held kept : List ℕ) (fs : List Tranches) (count start : ℕ) (next : Next) (fuel : ℕ) : Type 0 where
    pub same : rest fuel (outbid ps fs count) ≡ whole
    pub room : Room ps
    pub long : length fs ≡ 32
    pub free : Free fs ps
    pub some : count + fuel ≤ 83884800
    pub sums : Counted ps held kept n
    pub start_in : start ≤ m
    pub before : first_up_to (over_by held kept targets ticks) start ≡ None
    pub known : Known n (drawn order) ps start next

  pub turn_start : (held kept : List ℕ) (all : ℕ) → Room ps₀ → Summed ps₀ held kept n all → (fuel : ℕ) → fuel ≡ all
      → Turn ps₀ held kept (replicate 32 (tranches 0)) 0 0 nobody fuel
  turn_start held kept all R S fuel e = record {
    same = ap (λ f. rest f (outbid ps₀ (replicate 32 (tranches 0)) 0)) (e ∙ S.every_kept);
    room = R;
    long = length-replicate 32 (tranches 0);
    free = none_free ps₀ R;
    some = omega (arith, S.small, e);
    sums = S.sums;
    start_in = omega arith;
    before = refl;
    known = known_none n (drawn order) ps₀ 0;
  }

-- the loop's values, with what the caller ensures
pub record Loop : Type 0 where
  pub m : ℕ
  pub n : ℕ
  pub targets : List ℕ
  pub ticks : List ℕ
  pub order : List ℕ
  pub ps₀ : List Place
  pub ps : List Place
  pub held : List ℕ
  pub kept : List ℕ
  pub fs : List Tranches
  pub count : ℕ
  pub start : ℕ
  pub next : Next
  pub fuel : ℕ
  pub few : m ≤ 8
  pub draw : Drawn n order
  pub turn : Turn m n targets ticks order ps₀ ps held kept fs count start next fuel

module _ (w : Loop) where
  abbrev all : Outbid
  all = whole w.m w.n w.targets w.ticks w.order w.ps₀

  abbrev here : Outbid
  here = outbid w.ps w.fs w.count

  abbrev pub first_over : Option ℕ
  first_over = first_up_to (over_by w.held w.kept w.targets w.ticks) w.m

  -- the code looks at what it has counted, the definition counts anew
  counted : (q : Option ℕ) → first_over ≡ q → first_up_to (over w.n (target_on w.targets) (is_one w.ticks) w.ps) w.m ≡ q
  counted q e =
      sym (first_ext (over_by w.held w.kept w.targets w.ticks)
      (over w.n (target_on w.targets) (is_one w.ticks) w.ps) w.m
      (λ p l. ap₂ (λ h k. not (is_one w.ticks p) && (above (standing h (target_on w.targets p)) && ltb 0 k))
      (w.turn.sums.holds.each p (omega (arith, w.few))) (w.turn.sums.keeps.each p (omega (arith, w.few)))))
      ∙ e

  pub turn_looking : Looking w.held w.kept w.targets w.ticks w.start w.m
  turn_looking = record {
    few = w.few;
    start_in = w.turn.start_in;
    before = w.turn.before;
    small = λ q l. omega (arith, w.turn.sums.holds.each q l, column_small w.ps w.turn.room w.n q w.draw.few);
  }

  pub turn_none : first_over ≡ None → here ≡ all
  turn_none e =
      sym (loop_none w.m w.n (target_on w.targets) (is_one w.ticks) (drawn w.order) here w.fuel (counted None e))
      ∙ w.turn.same

  pub turn_out : w.fuel ≤ 0 → here ≡ all
  turn_out l =
      sym (loop_out w.m w.n (target_on w.targets) (is_one w.ticks) (drawn w.order) here w.fuel l) ∙ w.turn.same

  module _ (p : ℕ) (e : first_over ≡ Some p) where
    found : (p < w.m) × (over_by w.held w.kept w.targets w.ticks p ≡ true)
    found = best_found (over_by w.held w.kept w.targets w.ticks) never w.m p e

    pub turn_product : p < 8
    turn_product = omega (arith, found.0, w.few)

    -- who is next of a product is not known of another
    pub turn_asked : (s : Next) → s ≡ cond (eqb p w.start) w.next nobody → Asked w.n w.order w.ps p s
    turn_asked s f = record {
      room = w.turn.room;
      draw = w.draw;
      product = turn_product;
      known = subst (Known w.n (drawn w.order) w.ps p) (sym f)
          (known_if w.n (drawn w.order) w.ps p w.next (eqb p w.start)
          (λ t. subst (λ q. Known w.n (drawn w.order) w.ps q w.next) (sym (eqb-true p w.start t)) w.turn.known));
    }

    module _ (o : Loss) (L : Lost w.n (drawn w.order) w.ps p o) where
      pub turn_much : AsMuch w.held w.kept p o.more
      turn_much = record {
        product = turn_product;
        held_long = w.turn.sums.holds.long;
        kept_long = w.turn.sums.keeps.long;
        held_some = omega (arith, L.held, w.turn.sums.holds.each p turn_product);
        kept_some = omega (arith, L.kept, w.turn.sums.keeps.each p turn_product);
      }

      -- the products before p are as they were
      before : first_up_to (over_by (less_of w.held p o.more) (less_of w.kept p o.more) w.targets w.ticks) p ≡ None
      before =
          first_ext (over_by (less_of w.held p o.more) (less_of w.kept p o.more) w.targets w.ticks)
          (over_by w.held w.kept w.targets w.ticks) p
          (λ q l. ap₂ (λ h k. not (is_one w.ticks q) && (above (standing h (target_on w.targets q)) && ltb 0 k))
          (get_or-set_other w.held p q _ 0 (λ z. omega arith)) (get_or-set_other w.kept p q _ 0 (λ z. omega arith)))
          ∙ first_before (over_by w.held w.kept w.targets w.ticks) w.m p e

      pub turn_again : (left : ℕ) → suc left ≡ w.fuel
          → Turn w.m w.n w.targets w.ticks w.order w.ps₀ (set w.ps o.at o.place)
          (less_of w.held p o.more) (less_of w.kept p o.more) (paid w.fs o) (w.count + o.more) p o.next left
      turn_again left z =
          let S = w.turn.sums in
          let qs = set w.ps o.at o.place in
          record {
            same =
                ap (rest w.m w.n w.targets w.ticks w.order w.ps₀ left) (L.makes w.fs w.count)
                ∙ sym (loop_step w.m w.n (target_on w.targets) (is_one w.ticks) (drawn w.order) here left p
                (counted (Some p) e))
                ∙ ap (λ f. rest w.m w.n w.targets w.ticks w.order w.ps₀ f here) z ∙ w.turn.same;
            room = L.room;
            long = length-set w.fs o.owner _ ∙ w.turn.long;
            free = L.free w.fs w.turn.long w.turn.free;
            some = omega (arith, w.turn.some, L.more, z);
            sums = record {
              holds = sums_less held_of w.ps qs w.n w.held p o.more turn_product S.holds L.held (L.beside held_of);
              keeps = sums_less kept_of w.ps qs w.n w.kept p o.more turn_product S.keeps L.kept (L.beside kept_of);
            };
            start_in = omega (arith, found.0);
            before = before;
            known = L.known;
          }
