-- The searches over numbers find what the definition's searches over places find. Assumes nothing.
use mathlib.Core.Path.{◌≡◌, refl, sym, ◌∙◌, ap}
use mathlib.Core.Bool.{Bool, true, false, ◌&&◌}
use mathlib.Core.List.{List}
use Prim.Native.Nat.{ℕ, zero, suc, ◌+◌, ◌*◌, ◌≤◌, ◌<◌}
use native.Mathlib.Omega.{arith}
use borrow.Author.Tests.{lt-ltb, le-ltb, ltb-true, ltb-false, eqb-true, eqb-false}
use lib.ListN.{get_or, set, length}
use lib.Seq.{get_or-set_same, get_or-set_other}
use lib.Dec.{ltb, eqb}
use Rattle.std.specs.Prelude.{Option, None, Some}
use Rattle.rules.specs.declared.Place.{Place}
use Rattle.rules.specs.Count.{pick_if, better, best_up_to, never}
use Rattle.rules.specs.Accept.{nowhere, place_at, leaving_of, leaving_at, moving_of, rise_of}
use Rattle.rules.specs.Keep.{leaver, mover, risen}
use Rattle.rules.proofs.Sums.{best_found, best_none}
use Rattle.table.specs.declared.Next.{Next}
use Rattle.table.specs.Next.{soonest, turn_by}
use Rattle.table.proofs.Turns.{Apart, soonest_ext, next_nobody, next_first, next_second}
use Rattle.keep.specs.declared.Best.{Best}
use Rattle.keep.specs.Search.{next_up_to, noted, highest_up_to}
use Rattle.keep.specs.Step.{Each, Timed, rank_by, Ranked, loss_of, loss_at}

-- ---- one place stored anew, with its number or beside it

module _ (R : ℕ → Place → Type 0) (vs : List ℕ) (ps : List Place) (long : length ps ≡ 256) (E : Each R vs ps) (k : ℕ)
    (lk : k < 256) (x : Place) where
  set_by : (v : ℕ) → length vs ≡ 256 → R v x → (j : ℕ) → j < 256 → (t : Bool) → eqb j k ≡ t → R (get_or (set vs k v) j 0)
      (place_at (set ps k x) j)
  set_by v lv r j l true e =
      let i : k < length ps = omega arith in
      let h : k < length vs = omega arith in
      rw (eqb-true j k e, get_or-set_same vs k v 0 h, get_or-set_same ps k x nowhere i) r
  set_by v lv r j l false e =
      let d = eqb-false j k e in
      rw (get_or-set_other vs k j v 0 d, get_or-set_other ps k j x nowhere d) (E j l)

  pub each_set : (v : ℕ) → length vs ≡ 256 → R v x → Each R (set vs k v) (set ps k x)
  each_set v lv r j l = set_by v lv r j l (eqb j k) refl

  keep_by_lem : R (get_or vs k 0) x → (j : ℕ) → j < 256 → (t : Bool) → eqb j k ≡ t → R (get_or vs j 0) (place_at (set ps k x) j)
  keep_by_lem r j l true e =
      let i : k < length ps = omega arith in
      rw (eqb-true j k e, get_or-set_same ps k x nowhere i) r
  keep_by_lem r j l false e =
      let d = eqb-false j k e in
      rw (get_or-set_other ps k j x nowhere d) (E j l)

  pub each_keep : R (get_or vs k 0) x → Each R vs (set ps k x)
  each_keep r j l = keep_by_lem r j l (eqb j k) refl

-- ---- of the places of one product

-- the next turn, that of number j of the draw, bidder b, is a withdrawal's
pub record Withdrawal (ps : List Place) (draw : ℕ → ℕ) (n p j b : ℕ) : Type 0 where
  pub first : leaver n draw ps p ≡ Some j
  pub some : 0 < leaving_of (place_at ps (b * 8 + p))
  pub drawn : j < n

-- and a switch's
pub record Switch (ps : List Place) (draw : ℕ → ℕ) (n p j b : ℕ) : Type 0 where
  pub none : leaver n draw ps p ≡ None
  pub first : mover n draw ps p ≡ Some j
  pub nothing : leaving_of (place_at ps (b * 8 + p)) ≤ 0
  pub some : 0 < moving_of (place_at ps (b * 8 + p))
  pub drawn : j < n

module _ (ps : List Place) (turns : List ℕ) (E : Each Timed turns ps) (draw : ℕ → ℕ) (n p : ℕ) (ln : n ≤ 32) (lp : p < 8)
    (range : (i : ℕ) → i < n → draw i < n) where
  abbrev leaves : ℕ → Bool
  leaves i = ltb 0 (leaving_of (place_at ps (draw i * 8 + p)))

  abbrev moves : ℕ → Bool
  moves i = ltb 0 (moving_of (place_at ps (draw i * 8 + p)))

  abbrev exits : ℕ → ℕ
  exits i = leaving_at (place_at ps (draw i * 8 + p))

  timed : (i : ℕ) → i < n → Timed (get_or turns (draw i * 8 + p) 0) (place_at ps (draw i * 8 + p))
  timed i l = let r = range i l in E (draw i * 8 + p) (omega arith)

  apart : (i : ℕ) → i < n → Apart 4294967296 (exits i) 4294967296
  apart i l = let t = timed i l in record { below = omega (arith, t.exit); above = omega arith; some = omega arith }

  next_same : next_up_to turns draw p n ≡ soonest (λ i. turn_by (leaves i) (exits i) (moves i) 4294967296) n
  next_same = soonest_ext _ _ n (λ i l. (timed i l).turn)

  module _ (s : Next) (e : s ≡ next_up_to turns draw p n) where
    same : s ≡ soonest (λ i. turn_by (leaves i) (exits i) (moves i) 4294967296) n
    same = e ∙ next_same

    pub next_nothing : s.turn ≡ 4294967297 → (leaver n draw ps p ≡ None) × (mover n draw ps p ≡ None)
    next_nothing z = next_nobody leaves moves exits (λ i. 4294967296) 4294967296 n apart s same z

    pub next_withdrawal : s.turn < 4294967296 → Withdrawal ps draw n p s.at (draw s.at)
    next_withdrawal l =
        let z = next_first leaves moves exits (λ i. 4294967296) 4294967296 n apart s same (omega arith) l in
        let f = best_found leaves (λ i j. ltb (exits i) (exits j)) n s.at z in
        record { first = z; some = ltb-true _ _ f.1; drawn = f.0 }

    pub next_switch : 4294967296 ≤ s.turn → (s.turn ≡ 4294967297 → ⊥) → Switch ps draw n p s.at (draw s.at)
    next_switch l d =
        let w = next_second leaves moves exits (λ i. 4294967296) 4294967296 n apart s same l d in
        let f = best_found moves never n s.at w.1 in
        record {
          none = w.0;
          first = w.1;
          nothing = ltb-false _ _ (best_none leaves (λ i j. ltb (exits i) (exits j)) n w.0 s.at f.0);
          some = ltb-true _ _ f.1;
          drawn = f.0;
        }

-- ---- the search for the highest rank

module _ (ranks : List ℕ) (b : ℕ) where
  abbrev pub rank_at : ℕ → ℕ
  rank_at p = get_or ranks (b * 8 + p) 0

  loss_by_lem : (m : ℕ) (q : Option ℕ) → highest_up_to ranks b m ≡ q → (best : Best) → best ≡ noted rank_at q
      → ((best.rank ≡ 0) → loss_at q ≡ loss_of 0 0) × ((best.rank ≡ 0 → ⊥) → loss_at q ≡ loss_of best.at 1)
  loss_by_lem m (Some j) f best e =
      let l : 0 < rank_at j = ltb-true _ _ (best_found (λ p. ltb 0 (rank_at p)) (λ p q. ltb (rank_at q) (rank_at p)) m j f).1 in
      let r : best.rank ≡ rank_at j = ap (λ b. b.rank) e in
      (λ z. absurd (let x : ⊥ = omega arith in x), λ d. ap (λ b. loss_of b.at 1) (sym e))
  loss_by_lem m None f best e = (λ z. refl, λ d. absurd (d (ap (λ b. b.rank) e)))

  -- what the bidder loses
  pub loss_is : (m : ℕ) (best : Best) → best ≡ noted rank_at (highest_up_to ranks b m)
      → ((best.rank ≡ 0) → loss_at (highest_up_to ranks b m) ≡ loss_of 0 0)
      × ((best.rank ≡ 0 → ⊥) → loss_at (highest_up_to ranks b m) ≡ loss_of best.at 1)
  loss_is m best e = loss_by_lem m (highest_up_to ranks b m) refl best e

-- ---- the highest rank is that of the increase with the largest priority number

module _ (has : ℕ → Bool) (key rank : ℕ → ℕ) where
  abbrev largest : ℕ → Option ℕ
  largest n = best_up_to has (λ i j. ltb (key j) (key i)) n

  one_more : (x y : ℕ) (t : Bool) → ltb x y ≡ t → ltb (x + 1) (y + 1) ≡ ltb x y
  one_more x y true e = let l = ltb-true x y e in lt-ltb (x + 1) (y + 1) (omega arith) ∙ sym e
  one_more x y false e = let l = ltb-false x y e in le-ltb (x + 1) (y + 1) (omega arith) ∙ sym e

  has_rank : (k : ℕ) (t : Bool) → ltb 0 (rank_by t k) ≡ t
  has_rank k true = lt-ltb 0 (k + 1) (omega arith)
  has_rank k false = refl

  less_rank : (j n : ℕ) (t : Bool) → (t && ltb (key j + 1) (rank_by t (key n))) ≡ (t && ltb (key j) (key n))
  less_rank j n true = one_more (key j) (key n) (ltb (key j) (key n)) refl
  less_rank j n false = refl

  rank_step : (q : Option ℕ) (n : ℕ) → ((j : ℕ) → q ≡ Some j → rank j ≡ key j + 1) → rank n ≡ rank_by (has n) (key n)
      → better (λ i. ltb 0 (rank i)) (λ i j. ltb (rank j) (rank i)) q n ≡ better has (λ i j. ltb (key j) (key i)) q n
  rank_step None n h e = ap (λ r. pick_if (ltb 0 r) n None) e ∙ ap (λ t. pick_if t n None) (has_rank (key n) (has n))
  rank_step (Some j) n h e =
      ap (λ r. pick_if (ltb 0 (rank n) && ltb r (rank n)) n (Some j)) (h j refl)
      ∙ ap (λ r. pick_if (ltb 0 r && ltb (key j + 1) r) n (Some j)) e
      ∙ ap (λ t. pick_if (t && ltb (key j + 1) (rank_by (has n) (key n))) n (Some j)) (has_rank (key n) (has n))
      ∙ ap (λ t. pick_if t n (Some j)) (less_rank j n (has n))

  pub rank_best : (n : ℕ) → ((i : ℕ) → i < n → rank i ≡ rank_by (has i) (key i))
      → best_up_to (λ i. ltb 0 (rank i)) (λ i j. ltb (rank j) (rank i)) n ≡ largest n
  rank_best zero h = refl
  rank_best (suc n) h =
      ap (λ q. better (λ i. ltb 0 (rank i)) (λ i j. ltb (rank j) (rank i)) q n) (rank_best n (λ i l. h i (omega arith)))
      ∙ rank_step (largest n) n
      (λ j e. let f = best_found has (λ i j. ltb (key j) (key i)) n j e in h j (omega (arith, f.0)) ∙ ap (λ t. rank_by t (key j))
      f.1)
      (h n (omega arith))

pub highest_same : (ps : List Place) (ranks : List ℕ) → Each Ranked ranks ps → (b m : ℕ) → b < 32 → m ≤ 8
    → highest_up_to ranks b m ≡ risen m ps b
highest_same ps ranks E b m lb lm =
    rank_best (λ p. ltb 0 (rise_of (place_at ps (b * 8 + p)))) (λ p. (place_at ps (b * 8 + p)).priority)
    (λ p. get_or ranks (b * 8 + p) 0) m
    (λ p l. E (b * 8 + p) (omega arith))
