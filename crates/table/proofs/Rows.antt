-- A table of rows read and written as a list of places. Assumes nothing.
use mathlib.Core.Path.{◌≡◌, refl, sym, ap, ◌∙◌}
use mathlib.Core.List.{List, [], ◌∷◌, map}
use Prim.Native.Nat.{ℕ, zero, suc, ◌%◌, ◌<◌}
use native.Mathlib.Nat.{mod-eq_of_lt}
use lib.ListN.{length, get_or, set, get_or-map}
use Rattle.rules.specs.declared.Lots.{Lots}
use Rattle.rules.specs.declared.Place.{Place}
use Rattle.rules.specs.Lots.{lot, count_of, lots}
use Rattle.rules.specs.Held.{going_in, denied_in}
use Rattle.rules.specs.Accept.{place_at, moving_of, rise_of}
use Rattle.table.specs.Rows.{place_in, places_in}

map_set : {A B : Type 0} (f : A → B) (l : List A) (i : ℕ) (a : A) → map f (set l i a) ≡ set (map f l) i (f a)
map_set f [] i a = refl
map_set f (x ∷ xs) zero a = refl
map_set f (x ∷ xs) (suc i) a = ap (λ z. f x ∷ z) (map_set f xs i a)

-- the numbers of a place
abbrev numbers_of : Place → List ℕ
numbers_of l =
    going_in l.holds ∷ denied_in l.holds ∷ count_of l.holds.retained.one ∷ l.holds.retained.one.exit
    ∷ count_of l.holds.retained.two ∷ l.holds.retained.two.exit ∷ count_of l.holds.retained.three
    ∷ l.holds.retained.three.exit ∷ count_of l.holds.retained.four ∷ l.holds.retained.four.exit
    ∷ count_of l.leaving.one ∷ l.leaving.one.exit ∷ count_of l.leaving.two ∷ l.leaving.two.exit
    ∷ count_of l.leaving.three ∷ l.leaving.three.exit ∷ count_of l.leaving.four ∷ l.leaving.four.exit ∷ moving_of l
    ∷ rise_of l ∷ l.priority ∷ []

-- each count has 16 bits
pub record Counts (l : Lots) : Type 0 where
  pub one : count_of l.one < 65536
  pub two : count_of l.two < 65536
  pub three : count_of l.three < 65536
  pub four : count_of l.four < 65536

same_lots : (l : Lots) → Counts l
    → lots (lot (count_of l.one % 65536) l.one.exit) (lot (count_of l.two % 65536) l.two.exit)
    (lot (count_of l.three % 65536) l.three.exit) (lot (count_of l.four % 65536) l.four.exit) ≡ l
same_lots l c = rw (mod-eq_of_lt c.one, mod-eq_of_lt c.two, mod-eq_of_lt c.three, mod-eq_of_lt c.four)

-- they give the place back, since each has the bits of its field
pub same :
    (l : Place) → going_in l.holds < 65536 → denied_in l.holds < 65536 → Counts l.holds.retained → Counts l.leaving
    → moving_of l < 65536 → rise_of l < 65536 → l.priority < 256 → place_in (numbers_of l) ≡ l
same l g d r n s i k =
    let kept = same_lots l.holds.retained r in
    let left = same_lots l.leaving n in
    rw (mod-eq_of_lt g, mod-eq_of_lt d, kept, left, mod-eq_of_lt s, mod-eq_of_lt i, mod-eq_of_lt k)

pub read_at : (rows : List (List ℕ)) (k : ℕ) → place_in (get_or rows k []) ≡ place_at (places_in rows) k
unfolding places_in
read_at rows k = sym (get_or-map place_in rows k _)

pub set_at : (rows : List (List ℕ)) (k : ℕ) (x : List ℕ) (l : Place) → place_in x ≡ l
    → places_in (set rows k x) ≡ set (places_in rows) k l
unfolding places_in
set_at rows k x l e = rw (map_set place_in rows k x, e)

map_long : {A B : Type 0} (f : A → B) (l : List A) → length (map f l) ≡ length l
map_long f [] = refl
map_long f (x ∷ xs) = ap suc (map_long f xs)

pub rows_long : (rows : List (List ℕ)) (n : ℕ) → length rows ≡ n → length (places_in rows) ≡ n
unfolding places_in
rows_long rows n e = map_long place_in rows ∙ e
