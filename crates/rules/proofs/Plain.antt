-- However the short products are taken, the same tranches are kept: the plain engine, in any order of the products, and step 2.
-- Assumes nothing.
use mathlib.Core.Path.{◌≡◌, refl, ap, ap₂, subst}
use mathlib.Core.Bool.{Bool, true, false, cond}
use mathlib.Core.List.{List}
use Prim.Native.Nat.{ℕ, zero, suc, ◌+◌, ◌-◌, ◌≤◌, ◌<◌}
use native.Mathlib.Omega.{arith}
use borrow.Author.Tests.{eqb-true, eqb-false}
use lib.Dec.{eqb}
use Rattle.std.specs.Prelude.{Option, None, Some}
use Rattle.rules.specs.declared.Place.{Place}
use Rattle.rules.specs.declared.Kept.{Kept}
use Rattle.rules.specs.Count.{sum_up_to, first_up_to, never}
use Rattle.rules.specs.Accept.{column, every, held_of, left_of}
use Rattle.rules.specs.Keep.{Keepable, short, keep_step, can_keep, kept, while_short, keep_loop, kept_all}
use Rattle.rules.specs.Plain.{lacking, keep_many, visit, visits, passes, plain_all, Run, none, more, Still, Short}
use Rattle.rules.proofs.Sums.{sum_ge, and_left, and_right, best_found}
use Rattle.rules.proofs.Lists.{clash, both}
use Rattle.rules.proofs.Signed.{below_true, lt_below}
use Rattle.rules.proofs.Keep.{Stepped, can_keep_lem, keep_stepped, keepable_step, none_short, kept_all_ends}
use Rattle.rules.proofs.Runs.{run_on, run_none, one_end}
use Rattle.rules.proofs.Exchange.{short_stays, keep_commutes}

-- what a product lacks: it is short exactly while it lacks something
module _ (n : ℕ) (target : ℕ → ℕ) (tick : ℕ → Bool) (ps : List Place) (p : ℕ) where
  lacks : tick p ≡ true → lacking n target tick ps p ≡ target p - column held_of ps p n
  lacks e = rw e

  unticked : tick p ≡ false → lacking n target tick ps p ≡ 0
  unticked e = rw e

  lacks_short : 0 < lacking n target tick ps p → short n target tick ps p ≡ true
  lacks_short h = by (tick p) refl
    where
      by : (t : Bool) → tick p ≡ t → short n target tick ps p ≡ true
      by true e = both e (lt_below (column held_of ps p n) (target p) (omega (arith, lacks e)))
      by false e = let z = unticked e in absurd (let x : ⊥ = omega arith in x)

  short_lacks : short n target tick ps p ≡ true → 0 < lacking n target tick ps p
  short_lacks s =
      omega (arith, lacks (and_left (tick p) _ s), below_true (column held_of ps p n) (target p) (and_right (tick p) _ s))

module _ (m n : ℕ) (target : ℕ → ℕ) (tick : ℕ → Bool) where
  abbrev pub Can : List Place → ℕ → Type 0
  Can ps p = Short m n target tick ps p

  abbrev Fine : List Place → Type 0
  Fine ps = Keepable m n target tick ps

  module _ (draw : ℕ → ℕ) where
    -- tranches kept one by one, each on some short product
    abbrev pub Keeps : List Place → ℕ → List Place → Type 0
    Keeps = Run Can (keep_step m n draw)

    module _ (hm : m ≤ 8) where
      -- however the short products are taken, the places at the end and the number kept are the same
      pub any_order : {ps qs rs : List Place} {j k : ℕ} → Keeps ps j qs → Still Can qs → Keeps ps k rs → Still Can rs → (j ≡ k) × (qs ≡ rs)
      any_order =
          one_end (λ ps p q c d e. (d.0, short_stays m n draw ps p q (omega (arith, c.0)) (omega (arith, d.0)) e target tick d.1))
          (λ ps p q c d. keep_commutes m n draw hm ps p q (omega (arith, c.0)) (omega (arith, d.0)))

      module _ (range : (i : ℕ) → i < n → draw i < n) (reach : (b : ℕ) → b < n → (i : ℕ) × (i < n) × (draw i ≡ b)) where
        -- one tranche
        module _ (ps : List Place) (K : Fine ps) (p : ℕ) (c : Can ps p) where
          ticks : tick p ≡ true
          ticks = and_left (tick p) _ c.1

          under : column held_of ps p n < target p
          under = below_true (column held_of ps p n) (target p) (and_right (tick p) _ c.1)

          can : can_keep n draw ps p ≡ true
          can = can_keep_lem m n target tick draw hm range reach ps K p c.0 ticks under

          stepped : Stepped m n p ps (keep_step m n draw ps p)
          stepped = keep_stepped m n target tick draw hm range reach ps K p c.0 ticks under

          next : Fine (keep_step m n draw ps p)
          next = keepable_step m n target tick draw hm range reach ps K (keep_step m n draw ps p) p under stepped

        -- each tranche kept is one fewer left to keep
        run_kept : {ps qs : List Place} {k : ℕ} → Fine ps → Keeps ps k qs → Fine qs × (every left_of qs n + k ≡ every left_of ps n)
        run_kept K none = (K, omega arith)
        run_kept {ps = ps} K (more p c r) =
            let S = stepped ps K p c in let h = run_kept (next ps K p c) r in (h.0, omega (arith, h.1, S.left))

        -- from s to t by tranches kept and counted, and to an end where nothing is short
        abbrev Reached : Kept → Kept → Type 0
        Reached s t = (k : ℕ) × Keeps s.places k t.places × (t.count ≡ s.count + k)

        abbrev Ends : Kept → Kept → Type 0
        Ends s t = Reached s t × Still Can t.places

        from_none : (ps : List Place) (t : Kept) → Reached (kept ps 0) t → Keeps ps t.count t.places
        from_none ps t r = subst (λ i. Keeps ps i t.places) (let e : r.0 ≡ t.count = omega (arith, r.2) in e) r.1

        -- ---- step 2 is such a run

        abbrev own : ℕ → List Place → ℕ → Kept
        own = keep_loop m n target tick draw

        own_loop : (f : ℕ) (ps : List Place) (c : ℕ) → Fine ps → Reached (kept ps c) (own f ps c)
        unfolding keep_loop
        own_loop zero ps c K = (0, none, omega arith)
        own_loop (suc f) ps c K = by (first_up_to (short n target tick ps) m) refl (own_loop f)
          where
            by : (q : Option ℕ) → first_up_to (short n target tick ps) m ≡ q
                → ((qs : List Place) (c : ℕ) → Fine qs → Reached (kept qs c) (own f qs c))
                → Reached (kept ps c)
                (while_short q (λ p. cond (can_keep n draw ps p) (own f (keep_step m n draw ps p) (c + 1)) (kept ps c)) (kept ps c))
            by (Some p) e go =
                let g = best_found (short n target tick ps) never m p e in
                let r = go (keep_step m n draw ps p) (c + 1) (next ps K p g) in
                rw (can ps K p g) (suc r.0, more p g r.1, omega (arith, r.2))
            by None e go = (0, none, omega arith)

        module _ (ps : List Place) (K : Keepable m n target tick ps) where
          pub own_run : Keeps ps (kept_all m n target tick draw ps).count (kept_all m n target tick draw ps).places
              × Still Can (kept_all m n target tick draw ps).places
          own_run =
              let E = kept_all_ends m n target tick draw hm range reach ps K in
              (from_none ps (kept_all m n target tick draw ps) (own_loop _ ps 0 K), λ p c. clash c.1 (E.none p c.0))

          -- and so any run that leaves nothing short keeps what step 2 keeps
          pub any_way : {qs : List Place} {k : ℕ} → Keeps ps k qs → Still Can qs → kept qs k ≡ kept_all m n target tick draw ps
          any_way r h = let o = own_run in let u = any_order r h o.0 o.1 in ap₂ kept u.1 u.0

        -- ---- the plain engine is another

        many : (k : ℕ) (s : Kept) (p : ℕ) → Fine s.places → p < m → k ≤ lacking n target tick s.places p
            → Keeps s.places k (keep_many m n draw k s p).places × ((keep_many m n draw k s p).count ≡ s.count + k)
        unfolding keep_many
        many zero s p K l h = (none, omega arith)
        many (suc k) s p K l h =
            let c : Can s.places p = (l, lacks_short n target tick s.places p (omega arith)) in
            let t = ticks s.places K p c in
            let S = stepped s.places K p c in
            let s' = kept (keep_step m n draw s.places p) (s.count + 1) in
            let r = many k s' p (next s.places K p c) l
            (omega (arith, lacks n target tick s.places p t, lacks n target tick s'.places p t, S.held_here)) in
            rw (can s.places K p c) (more p c r.0, omega (arith, r.1))

        module _ (order : ℕ → ℕ) (o-range : (i : ℕ) → i < m → order i < m)
            (o-reach : (p : ℕ) → p < m → (i : ℕ) × (i < m) × (order i ≡ p)) where
          -- a visit keeps as many as are lacking
          visited : (s : Kept) (p : ℕ) → Fine s.places → p < m
              → Keeps s.places (lacking n target tick s.places p) (visit m n target tick draw order s p).places
              × ((visit m n target tick draw order s p).count ≡ s.count + lacking n target tick s.places p)
          visited s p K l = many (lacking n target tick s.places p) s p K l (omega arith)

          module _ (s : Kept) (K : Fine s.places) where
            abbrev up_to : ℕ → Kept
            up_to i = visits m n target tick draw order s i

            passed : (i : ℕ) → i ≤ m → Reached s (up_to i)
            unfolding visits
            passed zero l = (0, none, omega arith)
            passed (suc i) l =
                let r = passed i (omega arith) in
                let v = visited (up_to i) (order i) (run_kept K r.1).0 (o-range i (omega arith)) in
                (r.0 + lacking n target tick (up_to i).places (order i), run_on r.1 v.0, omega (arith, r.2, v.1))

            -- where it has kept nothing, nothing was lacking
            idle : (i : ℕ) → i ≤ m → (up_to i).count ≡ s.count → sum_up_to (λ j. lacking n target tick s.places (order j)) i ≡ 0
            unfolding visits
            idle zero l e = refl
            idle (suc i) l e =
                let r = passed i (omega arith) in
                let v = visited (up_to i) (order i) (run_kept K r.1).0 (o-range i (omega arith)) in
                let q = ap (λ ps. lacking n target tick ps (order i)) (run_none r.1 (omega (arith, r.2, v.1))) in
                omega (arith, r.2, v.1, idle i (omega arith) (omega (arith, r.2, v.1)))

            -- and so nothing is short
            idle_still : (up_to m).count ≡ s.count → Still Can (up_to m).places
            idle_still e p c =
                let r = passed m (omega arith) in
                let o = o-reach p c.0 in
                let q = run_none r.1 (omega (arith, r.2)) in
                let z = sum_ge (λ j. lacking n target tick s.places (order j)) m o.0 o.1 in
                let x = ap (lacking n target tick s.places) o.2 in
                let y = short_lacks n target tick s.places p (subst (λ ps. short n target tick ps p ≡ true) q c.1) in
                omega (arith, idle m (omega arith) e)

          abbrev through : ℕ → Kept → Kept
          through = passes m n target tick draw order

          -- the passes end, with nothing short
          passes_end : (f : ℕ) (s : Kept) → Fine s.places → every left_of s.places n ≤ f → Ends s (through f s)
          unfolding passes
          passes_end zero s K l =
              ((0, none, omega arith), λ p c. clash c.1 (none_short m n target tick draw hm range reach s.places K (omega arith) p c.0))
          passes_end (suc f) s K l =
              by (up_to s K m) (passed s K m (omega arith)) (idle_still s K) (passes_end f (up_to s K m)) (eqb (up_to s K m).count s.count) refl
            where
              by : (x : Kept) → Reached s x → (x.count ≡ s.count → Still Can x.places)
                  → (Fine x.places → every left_of x.places n ≤ f → Ends x (through f x))
                  → (t : Bool) → eqb x.count s.count ≡ t → Ends s (cond t x (through f x))
              by x r h go true e = (r, h (eqb-true _ _ e))
              by x r h go false e =
                  let k = run_kept K r.1 in
                  let d = eqb-false x.count s.count e in
                  let g = go k.0 (omega (arith, k.1, r.2, d)) in
                  ((r.0 + g.0.0, run_on r.1 g.0.1, omega (arith, r.2, g.0.2)), g.1)

          module _ (ps : List Place) (K : Keepable m n target tick ps) where
            -- the definition has passes enough
            plain_ends : Ends (kept ps 0) (plain_all m n target tick draw order ps)
            plain_ends = passes_end _ (kept ps 0) K (omega arith)

            -- "takes any order of the products": the same places and the same count as step 2
            pub plain_same : plain_all m n target tick draw order ps ≡ kept_all m n target tick draw ps
            plain_same =
                let r = plain_ends in any_way ps K (from_none ps (plain_all m n target tick draw order ps) r.0) r.1
