-- What one pass over the records finds. Assumes nothing.
use Rattle.std.specs.Prelude.{◌≡◌, ℕ, ◌≤◌}
use Rattle.rules.specs.declared.Auction.{Auction}
use Rattle.rules.specs.Count.{all_up_to}
use Rattle.rules.specs.Held.{place}
use Rattle.rules.specs.Legal.{kept_on, record_stands}
use Rattle.held.specs.Sums.{held_on, AllHeld, AllKept}
use Rattle.legal.specs.declared.holdings.Column.{Column}
use Rattle.legal.specs.declared.holdings.Columns.{Columns}

-- on one product
pub record ColumnOf (a : Auction) (p : ℕ) (c : Column) : Type 0 where
  pub held : c.held ≡ held_on a p
  pub few : c.held ≤ 12582720
  pub kept : c.kept ≡ kept_on a p
  pub stands : c.stands ≡ all_up_to (λ b. record_stands a (place b p)) 32

-- on each product
pub record ColumnsOf (a : Auction) (c : Columns) : Type 0 where
  pub held : AllHeld a c.held
  pub kept : AllKept a c.kept
  pub stand : c.stand ≡ all_up_to (record_stands a) 256
