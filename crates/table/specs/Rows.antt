-- A place as a row of numbers, and the rows of a table as places. Assumes nothing.
use Rattle.std.specs.Prelude.{List, map, ℕ, ◌+◌, ◌%◌, get_or}
use Rattle.rules.specs.declared.Lot.{Lot}
use Rattle.rules.specs.declared.Lots.{Lots}
use Rattle.rules.specs.declared.Place.{Place}
use Rattle.rules.specs.Lots.{lot, lots}
use Rattle.rules.specs.Held.{entry}
use Rattle.rules.specs.Accept.{at}

-- a count has 16 bits
abbrev pub count : List ℕ → ℕ → ℕ
count xs i = get_or xs i 0 % 65536

-- a lot is a count and an exit price; four of them
abbrev pub lot_in : List ℕ → ℕ → Lot
lot_in xs i = lot (count xs i) (get_or xs (i + 1) 0)

abbrev pub lots_in : List ℕ → ℕ → Lots
lots_in xs i = lots (lot_in xs i) (lot_in xs (i + 2)) (lot_in xs (i + 4)) (lot_in xs (i + 6))

abbrev pub place_in : List ℕ → Place
place_in xs =
    at (entry (count xs 0) (count xs 1) (lots_in xs 2)) (lots_in xs 10) (count xs 18) (count xs 19) (get_or xs 20 0 % 256)

unfoldable pub places_in : List (List ℕ) → List Place
places_in rows = map place_in rows
