-- What the loops of steps 2 to 4 need of the places, and the numbers that they keep beside them. Assumes nothing.
use Rattle.std.specs.Prelude.{◌≡◌, List, ℕ, ◌+◌, ◌≤◌, ◌<◌, get_or, length}
use Rattle.rules.specs.declared.Place.{Place}
use Rattle.rules.specs.Held.{going_in, denied_in, retained_in}
use Rattle.rules.specs.Accept.{place_at, column, held_of, leaving_of, moving_of, rise_of}
use Rattle.table.specs.Drawn.{Drawn}

-- no count of a place can pass its 16 bits, and every increase is part of what is at the going price
pub record Fits (l : Place) : Type 0 where
  pub outs : leaving_of l + retained_in l.holds ≤ 7500
  pub switches : going_in l.holds + moving_of l + denied_in l.holds ≤ 7500
  pub rises : rise_of l ≤ going_in l.holds

pub record Room (ps : List Place) : Type 0 where
  pub long : length ps ≡ 256
  pub each : (k : ℕ) → Fits (place_at ps k)

-- what steps 2 and 4 are given
pub record Prepared (products bidders : ℕ) (order : List ℕ) (ps : List Place) : Type 0 where
  pub few : products ≤ 8
  pub draw : Drawn bidders order
  pub room : Room ps

-- a number for each product: its target
abbrev pub target_on : List ℕ → ℕ → ℕ
target_on targets p = get_or targets p 0

-- a number for each product: its sum over n bidders
pub record Sums (f : Place → ℕ) (sums : List ℕ) (ps : List Place) (n : ℕ) : Type 0 where
  pub long : length sums ≡ 8
  pub each : (q : ℕ) → q < 8 → get_or sums q 0 ≡ column f ps q n

-- what is held of each product, in numbers that the signed standing takes
pub record Held (held : List ℕ) (ps : List Place) (n : ℕ) : Type 0 where
  pub sums : Sums held_of held ps n
  pub small : (q : ℕ) → q < 8 → get_or held q 0 ≤ 20000000
