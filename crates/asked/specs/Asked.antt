-- What numbers that were typed ask for. Assumes nothing.
use Rattle.std.specs.Prelude.{cond, List, ℕ, ◌+◌, ◌*◌, get_or, ltb}
use Rattle.rules.specs.declared.Product.{Product}
use Rattle.rules.specs.declared.Row.{Row}
use Rattle.rules.specs.declared.Settings.{Settings}
use Rattle.rules.specs.declared.Tranches.{Tranches}
use Rattle.rules.specs.Count.{list_of}
use Rattle.rules.specs.Parts.{row}
use Rattle.rules.specs.Units.{tranches, unit_number, price_of}
use Rattle.asked.specs.declared.opening.Sizes.{Sizes}
use Rattle.asked.specs.declared.cutting.Revised.{Revised}

-- a number in 8 and in 16 bits; one that is too large is the largest
abbrev pub byte_of : ℕ → ℕ
byte_of n = cond (ltb n 256) n 255

abbrev pub pair_of : ℕ → ℕ
pair_of n = cond (ltb n 65536) n 65535

-- the numbers from which an array is made
abbrev pub typed : List ℕ → ℕ → ℕ
typed ns i = get_or ns i 0

abbrev pub drawn_at : List ℕ → ℕ → ℕ
drawn_at ns i = byte_of (typed ns i)

-- ---- settings

abbrev pub product_at : ℕ → List ℕ → ℕ → Product
product_at u ns p =
    record {
      target = tranches (pair_of (typed ns (p * 3)));
      cap = tranches (pair_of (typed ns (p * 3 + 1)));
      start = price_of u (typed ns (p * 3 + 2));
    }

abbrev pub bidder_asked : List ℕ → ℕ → Tranches
bidder_asked ns b = tranches (pair_of (typed ns b))

abbrev pub row_at : List ℕ → ℕ → Row
row_at ns i = row (pair_of (typed ns (i * 2))) (pair_of (typed ns (i * 2 + 1)))

-- the settings of `open`, from its numbers
unfoldable pub settings_asked : Sizes → List ℕ → List ℕ → List ℕ → Settings
settings_asked n products bidders rows =
    record {
      unit = n.unit;
      products = n.products;
      bidders = n.bidders;
      rows = n.rows;
      statewide = tranches (pair_of n.statewide);
      product = list_of (product_at (unit_number n.unit) products) 8;
      eligibility = list_of (bidder_asked bidders) 32;
      row = list_of (row_at rows) 8;
    }

-- ---- a cutback

abbrev pub target_at : List ℕ → ℕ → Tranches
target_at ns p = tranches (pair_of (typed ns (p * 2)))

abbrev pub cap_at : List ℕ → ℕ → Tranches
cap_at ns p = tranches (pair_of (typed ns (p * 2 + 1)))

-- the revised targets and caps of `cutback`, from its numbers
unfoldable pub revised_asked : List ℕ → Revised
revised_asked ns = record { targets = list_of (target_at ns) 8; caps = list_of (cap_at ns) 8 }
