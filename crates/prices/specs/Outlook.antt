-- What step 5 goes by, of what is held of each product and of the products' targets and prices. Assumes nothing.
use Rattle.std.specs.Prelude.{◌≡◌, Bool, true, ◌&&◌, cond, List, ℕ, ◌≤◌, ◌<◌, eqb, ℤ, get_or, is_some}
use Rattle.rules.specs.declared.Price.{Price}
use Rattle.rules.specs.declared.GoingPrice.{GoingPrice}
use Rattle.rules.specs.declared.Decrements.{Decrements}
use Rattle.rules.specs.declared.Auction.{Auction}
use Rattle.rules.specs.Count.{sum_up_to, first_up_to}
use Rattle.rules.specs.Units.{amount_of}
use Rattle.rules.specs.Settings.{setup, target_of}
use Rattle.rules.specs.Held.{standing, above, above_zero, held}
use Rattle.rules.specs.Bid.{one_if, price_at, before_at}
use Rattle.rules.specs.Price.{Override, Worked, next_price, next_before}
use Rattle.rules.specs.Round.{override_for}
use Rattle.storing.specs.Written.{amount_at}
use Rattle.prices.specs.declared.Next.{Next}
use Rattle.prices.specs.declared.Lanes.{Lanes}
use Rattle.prices.specs.declared.Outlook.{Outlook}

-- the working-out of one price, of a product of which so much is held
pub record NextOf (d : Decrements) (o : Override) (held target : ℕ) (x : Price) (r : GoingPrice) : Type 0 where
  pub price : amount_of r.price ≡ (next_price d o (standing held target) target (amount_of x)).price
  pub overridden : r.overridden ≡ (next_price d o (standing held target) target (amount_of x)).overridden

-- with its standing and its q
pub record WorkedOut (d : Decrements) (o : Override) (held target : ℕ) (x y : Price) (r : Next) : Type 0 where
  pub over : r.over ≡ above_zero (standing held target)
  pub going : NextOf d o held target x r.going
  pub before : amount_of r.before ≡ next_before (standing held target) (amount_of x) (amount_of y)

module _ (d : Decrements) (holds : List ℕ) (l : Lanes) where
  abbrev pub target_on : ℕ → ℕ
  target_on p = get_or l.target p 0

  abbrev pub standing_on : ℕ → ℤ
  standing_on p = standing (get_or holds p 0) (target_on p)

  -- "a product above target is at price 1"
  abbrev pub at_one : ℕ → Bool
  at_one p = above (standing_on p) && eqb (amount_at l.price p) 1

  abbrev pub worked_on : ℕ → Worked
  worked_on p = next_price d (override_for l.overrides p) (standing_on p) (target_on p) (amount_at l.price p)

  abbrev pub price_on : ℕ → ℕ
  price_on p = (worked_on p).price

  abbrev pub mark_on : ℕ → ℕ
  mark_on p = one_if (worked_on p).overridden

  abbrev pub before_on : ℕ → ℕ
  before_on p = next_before (standing_on p) (amount_at l.price p) (amount_at l.before p)

-- all products of a book with these settings and this round
pub record Foresees (a : Auction) (holds : List ℕ) (l : Lanes) (r : Outlook) : Type 0 where
  pub over : r.over ≡ sum_up_to (λ p. above_zero (standing_on a.decrements holds l p)) a.terms.products
  pub stops : r.stops ≡ cond (is_some (first_up_to (at_one a.decrements holds l) a.terms.products)) true (eqb a.round 4095)
  pub price : (p : ℕ) → p < 8 → amount_at r.price p ≡ price_on a.decrements holds l p
  pub before : (p : ℕ) → p < 8 → amount_at r.before p ≡ before_on a.decrements holds l p
  pub mark : (p : ℕ) → p < 8 → get_or r.mark p 0 ≡ mark_on a.decrements holds l p
  pub small : r.over ≤ 34359738360

-- the targets, the going prices and the prices before them
pub record Listed (l : Lanes) (t x y : ℕ → ℕ) : Type 0 where
  pub target : (p : ℕ) → p < 8 → get_or l.target p 0 ≡ t p
  pub price : (p : ℕ) → p < 8 → amount_at l.price p ≡ x p
  pub before : (p : ℕ) → p < 8 → amount_at l.before p ≡ y p

-- what is handed in is that of the book z, whose terms, decrements and round are those of a
pub record Shows (a z : Auction) (holds : List ℕ) (l : Lanes) : Type 0 where
  pub terms : z.terms ≡ a.terms
  pub decrements : z.decrements ≡ a.decrements
  pub round : z.round ≡ a.round
  pub held : (p : ℕ) → p < 8 → get_or holds p 0 ≡ held z.records z.terms.bidders p
  pub lanes : Listed l (target_of (setup z)) (price_at z) (before_at z)
