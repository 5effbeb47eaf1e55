-- The loops of the plain engine: what is left gives the same answer after every tranche, visit and pass. Assumes nothing.
use mathlib.Core.Path.{◌≡◌, refl, sym, ◌∙◌, ap, subst}
use mathlib.Core.Bool.{Bool, true, false, cond}
use mathlib.Core.List.{List}
use Prim.Native.Nat.{ℕ, zero, suc, ◌+◌, ◌-◌, ◌≤◌, ◌<◌}
use native.Mathlib.Nat.{le_antisymm}
use native.Mathlib.Omega.{arith}
use borrow.Author.Tests.{eq-eqb, ne_eqb}
use lib.ListN.{get_or}
use lib.Dec.{eqb}
use Rattle.rules.specs.declared.Kept.{Kept}
use Rattle.rules.specs.declared.Place.{Place}
use Rattle.rules.specs.Keep.{keep_step, can_keep, kept}
use Rattle.rules.specs.Plain.{keep_many, visit, visits, pass, passes}
use Rattle.rules.specs.Round.{drawn}
use Rattle.held.specs.Ticks.{is_one}
use Rattle.table.specs.Room.{target_on}
use Rattle.keep.specs.Work.{Keeping, KeptNext}
use Rattle.plain.specs.Going.{Going, Gone}
use Rattle.plain.proofs.Left.{one_fewer}

-- ---- as many on one product

module _ (m n : ℕ) (draw : ℕ → ℕ) (p : ℕ) where
  many_out : (k : ℕ) (s : Kept) → k ≤ 0 → keep_many m n draw k s p ≡ s
  unfolding keep_many
  many_out zero s l = refl
  many_out (suc k) s l = absurd (let z : ⊥ = omega arith in z)

  many_idle : (k : ℕ) (s : Kept) → can_keep n draw s.places p ≡ false → keep_many m n draw k s p ≡ s
  unfolding keep_many
  many_idle zero s c = refl
  many_idle (suc k) s c = rw c

  many_step : (k : ℕ) (s : Kept) → can_keep n draw s.places p ≡ true
      → keep_many m n draw (suc k) s p ≡ keep_many m n draw k (kept (keep_step m n draw s.places p) (s.count + 1)) p
  unfolding keep_many
  many_step k s c = rw c

-- what is left to keep gives what the visit is to leave
pub record Many (m n : ℕ) (order : List ℕ) (p : ℕ) (whole : Kept) (ps : List Place) (held turns ranks : List ℕ) (count left : ℕ) : Type 0 where
  pub product : p < 8
  pub going : Going m n order ps held turns ranks count
  pub same : keep_many m n (drawn order) left (kept ps count) p ≡ whole

module _ {m n : ℕ} {order : List ℕ} {p : ℕ} {whole : Kept} {ps : List Place} {held turns ranks : List ℕ} {count left : ℕ}
    (t : Many m n order p whole ps held turns ranks count left) where
  pub many_keeping : Keeping m n order ps held turns ranks p
  many_keeping = record { few = t.going.few; draw = t.going.draw; product = t.product; working = t.going.working }

  pub many_ends : left ≤ 0 → Gone m n order whole ps held turns ranks count
  many_ends l = record { same = sym (many_out m n (drawn order) p left (kept ps count) l) ∙ t.same; going = t.going }

  module _ {r : Bool} {ps' : List Place} {held' turns' ranks' : List ℕ} (K : KeptNext m n order ps p r ps' held' turns' ranks') where
    places_by : {b : Bool} → r ≡ b → ps' ≡ cond b (keep_step m n (drawn order) ps p) ps
    places_by z = K.places ∙ ap (λ b. cond b (keep_step m n (drawn order) ps p) ps) z

    pub many_stops : r ≡ false → Gone m n order whole ps' held' turns' ranks' count
    many_stops z = record {
      same =
          ap (λ x. kept x count) (places_by z)
          ∙ sym (many_idle m n (drawn order) p left (kept ps count) (sym K.can ∙ z)) ∙ t.same;
      going = record {
        few = t.going.few;
        draw = t.going.draw;
        working = K.working;
        small = rw (places_by z) t.going.small;
      };
    }

    pub many_again : r ≡ true → (c : ℕ) → c ≡ count + 1 → (k : ℕ) → suc k ≡ left → Many m n order p whole ps' held' turns' ranks' c k
    many_again z c ec k one =
        let d = t.going.draw in
        let f = one_fewer m n (drawn order) ps p t.going.few d.few t.product t.going.working.book.room.long d.range
        (sym K.can ∙ z) in
        record {
          product = t.product;
          going = record {
            few = t.going.few;
            draw = d;
            working = K.working;
            small = rw (places_by z) (omega (arith, t.going.small));
          };
          same =
              rw (places_by z, ec)
              (sym (many_step m n (drawn order) p k (kept ps count) (sym K.can ∙ z))
              ∙ ap (λ k. keep_many m n (drawn order) k (kept ps count) p) one ∙ t.same);
        }

-- ---- a pass

-- the products before i are visited
pub record Visited (m n : ℕ) (targets ticks draw order : List ℕ) (s : Kept) (ps : List Place) (held turns ranks : List ℕ) (count i : ℕ) : Type 0 where
  pub within : i ≤ m
  pub gone : Gone m n draw (visits m n (target_on targets) (is_one ticks) (drawn draw) (drawn order) s i) ps held turns ranks count

pub visited_none : {m n : ℕ} {targets ticks draw order : List ℕ} {ps : List Place} {held turns ranks : List ℕ} {count : ℕ}
    → Going m n draw ps held turns ranks count → Visited m n targets ticks draw order (kept ps count) ps held turns ranks count 0
unfolding visits
visited_none g = record { within = omega arith; gone = record { same = refl; going = g } }

module _ {m n : ℕ} {targets ticks draw order : List ℕ} {s : Kept} {ps : List Place} {held turns ranks : List ℕ} {count i : ℕ}
    (t : Visited m n targets ticks draw order s ps held turns ranks count i) where
  visit_by : (x : Kept) → kept ps count ≡ x → (p k : ℕ) → p ≡ drawn order i → p < 8
      → k ≡ cond (eqb (get_or ticks p 0) 1) (get_or targets p 0 - get_or held p 0) 0
      → keep_many m n (drawn draw) k (kept ps count) p
      ≡ visit m n (target_on targets) (is_one ticks) (drawn draw) (drawn order) x (drawn order i)
  visit_by x e p k f l g =
      let h = t.gone.going.working.book.holds.each p l in
      ap (λ k. keep_many m n (drawn draw) k (kept ps count) p) (g ∙ ap (λ h. cond (is_one ticks p) (target_on targets p - h) 0) h)
      ∙ ap (λ x. visit m n (target_on targets) (is_one ticks) (drawn draw) (drawn order) x p) e
      ∙ ap (λ p. visit m n (target_on targets) (is_one ticks) (drawn draw) (drawn order) x p) f

  pub visited_next : i < m → (p k : ℕ) → p ≡ drawn order i → p < 8
      → k ≡ cond (eqb (get_or ticks p 0) 1) (get_or targets p 0 - get_or held p 0) 0
      → {ps' : List Place} {held' turns' ranks' : List ℕ} {count' : ℕ}
      → Gone m n draw (keep_many m n (drawn draw) k (kept ps count) p) ps' held' turns' ranks' count'
      → Visited m n targets ticks draw order s ps' held' turns' ranks' count' (suc i)
  unfolding visits
  visited_next l p k f lp g G = record {
    within = l;
    gone = record { same = G.same ∙ visit_by _ t.gone.same p k f lp g; going = G.going };
  }

  pub visited_all : m ≤ i → Gone m n draw (visits m n (target_on targets) (is_one ticks) (drawn draw) (drawn order) s m) ps held turns ranks count
  visited_all l =
      subst (λ i. Gone m n draw (visits m n (target_on targets) (is_one ticks) (drawn draw) (drawn order) s i) ps held turns ranks count)
      (le_antisymm t.within l) t.gone

-- ---- again and again

module _ (m n : ℕ) (targets ticks draw order : List ℕ) where
  abbrev pub once : Kept → Kept
  once = pass m n (target_on targets) (is_one ticks) (drawn draw) (drawn order)

  abbrev pub rest : ℕ → Kept → Kept
  rest = passes m n (target_on targets) (is_one ticks) (drawn draw) (drawn order)

  rest_out : (f : ℕ) (s : Kept) → f ≤ 0 → rest f s ≡ s
  unfolding passes
  rest_out zero s l = refl
  rest_out (suc f) s l = absurd (let z : ⊥ = omega arith in z)

  rest_idle : (f : ℕ) (s x : Kept) → 0 < f → x ≡ once s → x.count ≡ s.count → rest f s ≡ x
  unfolding passes
  rest_idle zero s x l e z = absurd (let z : ⊥ = omega arith in z)
  rest_idle (suc f) s x l e z = rw (sym e, eq-eqb x.count s.count z) refl

  rest_step : (f : ℕ) (s x : Kept) → x ≡ once s → (x.count ≡ s.count → ⊥) → rest (suc f) s ≡ rest f x
  unfolding passes
  rest_step f s x e d = rw (sym e, ne_eqb x.count s.count d) refl

-- what is left to do gives the whole
pub record Turn (m n : ℕ) (targets ticks draw order : List ℕ) (whole : Kept) (ps : List Place) (held turns ranks : List ℕ) (count fuel : ℕ) : Type 0 where
  pub going : Going m n draw ps held turns ranks count
  pub same : rest m n targets ticks draw order fuel (kept ps count) ≡ whole

module _ {m n : ℕ} {targets ticks draw order : List ℕ} {whole : Kept} {ps : List Place} {held turns ranks : List ℕ} {count fuel : ℕ}
    (t : Turn m n targets ticks draw order whole ps held turns ranks count fuel) where
  pub turn_ends : fuel ≤ 0 → kept ps count ≡ whole
  turn_ends l = sym (rest_out m n targets ticks draw order fuel (kept ps count) l) ∙ t.same

  module _ {ps' : List Place} {held' turns' ranks' : List ℕ} {all : ℕ}
      (G : Gone m n draw (once m n targets ticks draw order (kept ps count)) ps' held' turns' ranks' all) where
    pub turn_idle : 0 < fuel → all ≡ count → kept ps' count ≡ whole
    turn_idle l z =
        ap (kept ps') (sym z) ∙ sym (rest_idle m n targets ticks draw order fuel (kept ps count) (kept ps' all) l G.same z) ∙ t.same

    pub turn_again : (all ≡ count → ⊥) → (k : ℕ) → suc k ≡ fuel → Turn m n targets ticks draw order whole ps' held' turns' ranks' all k
    turn_again d k one = record {
      going = G.going;
      same =
          sym (rest_step m n targets ticks draw order k (kept ps count) (kept ps' all) G.same d)
          ∙ ap (λ f. rest m n targets ticks draw order f (kept ps count)) one ∙ t.same;
    }
