-- Nothing is lost: where a line has at most one used lot, keeping and outbidding choose by its one exit price, as document 01 words it.
-- Assumes nothing.
use mathlib.Core.Path.{◌≡◌, refl, sym, ◌∙◌, ap}
use mathlib.Core.Bool.{Bool, true, false, ◌&&◌}
use mathlib.Core.List.{List}
use Prim.Native.Nat.{ℕ, zero, suc, ◌+◌, ◌*◌, ◌≤◌, ◌<◌}
use native.Mathlib.Omega.{arith}
use borrow.Author.Tests.{lt-ltb, le-ltb, ltb-true}
use lib.Dec.{ltb}
use Rattle.std.specs.Prelude.{Option, None, Some}
use Rattle.rules.specs.declared.Lots.{Lots}
use Rattle.rules.specs.declared.Place.{Place}
use Rattle.rules.specs.Count.{pick_if, better, best_up_to}
use Rattle.rules.specs.Lots.{lot, lots, count_of, one_lot, lot_at, total, first_used, last_used, lowest, highest, fewer, take_first, retain_at, outbid_lot, outbid_last}
use Rattle.rules.specs.Accept.{place_at}
use Rattle.rules.specs.Keep.{leaver}
use Rattle.rules.specs.Outbid.{retained_one}
use Rattle.rules.proofs.Sums.{best_found}

-- no lot but the first is used
pub record Single (l : Lots) : Type 0 where
  pub two : count_of l.two ≤ 0
  pub three : count_of l.three ≤ 0
  pub four : count_of l.four ≤ 0

pub one_single : (n x : ℕ) → Single (one_lot n x)
one_single n x = record { two = omega arith; three = omega arith; four = omega arith }

module _ (l : Lots) (S : Single l) where
  pub single_total : total l ≡ count_of l.one
  single_total = omega (arith, S.two, S.three, S.four)

  last_first : last_used l ≡ 0
  unfolding last_used
  last_first = simp (le-ltb 0 (count_of l.two) S.two, le-ltb 0 (count_of l.three) S.three, le-ltb 0 (count_of l.four) S.four)

  first_first : 0 < total l → first_used l ≡ 0
  unfolding first_used
  first_first h = simp (lt-ltb 0 (count_of l.one) (omega (arith, single_total)))

  -- the lowest price and the highest are that of its one lot
  pub single_lowest : 0 < total l → lowest l ≡ l.one.exit
  single_lowest h = ap (λ i. (lot_at l i).exit) (first_first h)

  pub single_highest : highest l ≡ l.one.exit
  single_highest = ap (λ i. (lot_at l i).exit) last_first

  -- and a tranche kept or outbid moves in that lot
  pub single_taken : 0 < total l → take_first l ≡ lots (fewer l.one) l.two l.three l.four
  single_taken h = rw (first_first h)

  pub single_outbid : outbid_last l ≡ lots (outbid_lot l.one) l.two l.three l.four
  single_outbid = rw last_first

pub single_retained : (l k : Lots) → Single k → 0 < total k → (x : ℕ)
    → retain_at l (first_used k) x ≡ lots (lot (count_of l.one + 1) x) l.two l.three l.four
single_retained l k S h x = rw (first_first k S h)

-- ---- the choice

-- what is chosen rests on the tests and on the order of those that pass them
module _ (has had : ℕ → Bool) (less lesser : ℕ → ℕ → Bool) where
  better_same : (q : Option ℕ) (i : ℕ) → has i ≡ had i → ((j : ℕ) → q ≡ Some j → has i ≡ true → less i j ≡ lesser i j)
      → better has less q i ≡ better had lesser q i
  better_same None i e f = rw e
  better_same (Some j) i e f = by (has i) refl
    where
      by : (t : Bool) → has i ≡ t → pick_if (has i && less i j) i (Some j) ≡ pick_if (had i && lesser i j) i (Some j)
      by true g = rw (f j refl g, e)
      by false g = let h : had i ≡ false = sym e ∙ g in rw (g, h)

  best_same : (n : ℕ) → ((i : ℕ) → i < n → has i ≡ had i)
      → ((i j : ℕ) → i < n → j < n → has i ≡ true → has j ≡ true → less i j ≡ lesser i j) → best_up_to has less n ≡ best_up_to had lesser n
  best_same zero e f = refl
  best_same (suc n) e f =
      better_same (best_up_to has less n) n (e n (omega arith)) (λ j q h.
      let b = best_found has less n j q in f n j (omega arith) (omega (arith, b.0)) h b.1)
      ∙ ap (λ q. better had lesser q n) (best_same n (λ i l. e i (omega arith)) (λ i j l k g h. f i j (omega arith) (omega arith) g h))

module _ (n : ℕ) (draw : ℕ → ℕ) (ps : List Place) (p : ℕ) where
  -- document 01: "Unkept withdrawals go first, lowest exit price first", of bids with one exit price each
  pub leaver_by_one : ((i : ℕ) → i < n → Single (place_at ps (draw i * 8 + p)).leaving)
      → leaver n draw ps p
      ≡ best_up_to (λ i. ltb 0 (count_of (place_at ps (draw i * 8 + p)).leaving.one))
      (λ i j. ltb (place_at ps (draw i * 8 + p)).leaving.one.exit (place_at ps (draw j * 8 + p)).leaving.one.exit) n
  leaver_by_one S =
      best_same _ _ _ _ n (λ i l. ap (ltb 0) (single_total (place_at ps (draw i * 8 + p)).leaving (S i l)))
      (λ i j l k g h.
      let x = single_lowest (place_at ps (draw i * 8 + p)).leaving (S i l) (ltb-true _ _ g) in
      let y = single_lowest (place_at ps (draw j * 8 + p)).leaving (S j k) (ltb-true _ _ h) in
      rw (x, y))

  -- document 01: "then the highest exit price", of records with one exit price each
  pub outbid_by_one : ((i : ℕ) → i < n → Single (place_at ps (draw i * 8 + p)).holds.retained)
      → retained_one n draw ps p
      ≡ best_up_to (λ i. ltb 0 (count_of (place_at ps (draw i * 8 + p)).holds.retained.one))
      (λ i j. ltb (place_at ps (draw j * 8 + p)).holds.retained.one.exit (place_at ps (draw i * 8 + p)).holds.retained.one.exit) n
  outbid_by_one S =
      best_same _ _ _ _ n (λ i l. ap (ltb 0) (single_total (place_at ps (draw i * 8 + p)).holds.retained (S i l)))
      (λ i j l k g h.
      let x = single_highest (place_at ps (draw i * 8 + p)).holds.retained (S i l) in
      let y = single_highest (place_at ps (draw j * 8 + p)).holds.retained (S j k) in
      rw (x, y))
