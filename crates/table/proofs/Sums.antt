-- Sums of a number of each place by product, taken place by place. Assumes nothing.
use mathlib.Core.Path.{◌≡◌, refl, sym, ◌∙◌, ap}
use mathlib.Core.Bool.{Bool, true, false}
use mathlib.Core.List.{List}
use Prim.Native.Nat.{ℕ, zero, suc, ◌+◌, ◌-◌, ◌*◌, ◌/◌, ◌%◌, ◌≤◌, ◌<◌}
use native.Mathlib.Omega.{arith}
use borrow.Author.Tests.{eqb-true, eqb-false}
use lib.ListN.{get_or, set, length, length-set, replicate, length-replicate, get_or-replicate}
use lib.Seq.{get_or-set_same, get_or-set_other}
use lib.Dec.{eqb}
use Rattle.rules.specs.declared.Place.{Place}
use Rattle.rules.specs.Accept.{place_at, column, held_of}
use Rattle.table.specs.Room.{Sums}
use Rattle.table.specs.Rows.{places_in}
use Rattle.table.proofs.Rows.{read_at}

-- the sums over the first k places: of product q they have (k + 7 - q) / 8 bidders
pub record SumsTo (f : Place → ℕ) (sums : List ℕ) (ps : List Place) (k : ℕ) : Type 0 where
  pub long : length sums ≡ 8
  pub each : (q : ℕ) → q < 8 → get_or sums q 0 ≡ column f ps q ((k + 7 - q) / 8)
  pub small : (q : ℕ) → q < 8 → get_or sums q 0 ≤ 400000 * k

pub sums_none : (f : Place → ℕ) (ps : List Place) → SumsTo f (replicate 8 0) ps 0
sums_none f ps = record {
  long = length-replicate {A = ℕ} 8 0;
  each = λ q l. let e : (0 + 7 - q) / 8 ≡ 0 = omega arith in get_or-replicate {A = ℕ} 8 q 0 0 l ∙ ap (column f ps q) (sym e);
  small = λ q l. omega (arith, get_or-replicate {A = ℕ} 8 q 0 0 l);
}

module _ (f : Place → ℕ) (sums : List ℕ) (ps : List Place) where
  module _ (k x : ℕ) (e : x ≡ f (place_at ps k)) (m : x ≤ 400000) (S : SumsTo f sums ps k) where
    abbrev more : List ℕ
    more = set sums (k % 8) (get_or sums (k % 8) 0 + x)

    each_by : (q : ℕ) → q < 8 → (t : Bool) → eqb q (k % 8) ≡ t
        → (get_or more q 0 ≡ column f ps q ((k + 1 + 7 - q) / 8)) × (get_or more q 0 ≤ 400000 * (k + 1))
    each_by q l true h =
        let z = eqb-true q (k % 8) h in
        let i : k % 8 < length sums = omega (arith, S.long) in
        let g = get_or-set_same sums (k % 8) (get_or sums (k % 8) 0 + x) 0 i in
        let s = S.each (k % 8) (omega arith) in
        let b = S.small (k % 8) (omega arith) in
        let u : (k + 1 + 7 - k % 8) / 8 ≡ suc ((k + 7 - k % 8) / 8) = omega arith in
        let v : (k + 7 - k % 8) / 8 * 8 + k % 8 ≡ k = omega arith in
        let w = ap (λ j. f (place_at ps j)) v in
        rw (z, g, u) (omega arith, omega arith)
    each_by q l false h =
        let d = eqb-false q (k % 8) h in
        let g = get_or-set_other sums (k % 8) q (get_or sums (k % 8) 0 + x) 0 d in
        let b = S.small q l in
        let u : (k + 1 + 7 - q) / 8 ≡ (k + 7 - q) / 8 = omega arith in
        rw (g, u) (S.each q l, omega arith)

    pub sums_next : SumsTo f more ps (k + 1)
    sums_next = record {
      long = length-set sums (k % 8) (get_or sums (k % 8) 0 + x) ∙ S.long;
      each = λ q l. (each_by q l (eqb q (k % 8)) refl).0;
      small = λ q l. (each_by q l (eqb q (k % 8)) refl).1;
    }

  pub sums_all : (k n : ℕ) → k ≡ n * 8 → SumsTo f sums ps k → Sums f sums ps n
  sums_all k n e S = record {
    long = S.long;
    each = λ q l. let u : (k + 7 - q) / 8 ≡ n = omega arith in S.each q l ∙ ap (column f ps q) u;
  }

-- a place of a table holds at most six times what 16 bits hold
place_most : (rows : List (List ℕ)) (k : ℕ) → held_of (place_at (places_in rows) k) ≤ 393210
place_most rows k = rw (sym (read_at rows k)) (omega arith)

pub held_most : (rows : List (List ℕ)) (q n : ℕ) → column held_of (places_in rows) q n ≤ 393210 * n
held_most rows q zero = omega arith
held_most rows q (suc n) = omega (arith, held_most rows q n, place_most rows (n * 8 + q))
