-- "Report and result." Assumes nothing.
use Rattle.std.specs.Prelude.{false, cond, ℕ, zero, suc, ◌+◌, ◌*◌, ◌-◌, ◌/◌, max, replicate, leb, ltb, eqb, Ok, Err}
use Rattle.rules.specs.declared.GoingPrice.{GoingPrice}
use Rattle.rules.specs.declared.Range.{Range}
use Rattle.rules.specs.declared.Lot.{Lot}
use Rattle.rules.specs.declared.Lots.{Lots}
use Rattle.rules.specs.declared.Record.{Record}
use Rattle.rules.specs.declared.Auction.{Auction}
use Rattle.rules.specs.declared.Refusal.{Refusal}
use Rattle.rules.specs.declared.Report.{Report}
use Rattle.rules.specs.declared.Reported.{Reported}
use Rattle.rules.specs.declared.Awarded.{Awarded}
use Rattle.rules.specs.Count.{list_of}
use Rattle.rules.specs.Units.{tranches, quote, going_price}
use Rattle.rules.specs.Answers.{phase_of}
use Rattle.rules.specs.Lots.{count_of}
use Rattle.rules.specs.Held.{nothing, going_in, denied_in, held_in, record_at, free_of, excess}
use Rattle.rules.specs.Bid.{record_of, price_at, before_at, mark_at}

abbrev pub range : ℕ → ℕ → Range
range low high = record { low = low; high = high }

-- "0-20; 21-30; 31-40; then fives (41-45, 46-50 ..)"
abbrev pub range_of : ℕ → Range
range_of x =
    cond (leb x 20) (range 0 20)
    (cond (leb x 30) (range 21 30)
    (cond (leb x 40) (range 31 40)
    (range (41 + (x - 41) / 5 * 5) (45 + (x - 41) / 5 * 5))))

-- document 02, request 1: the price "with whether it was overridden; the round and the reports carry that on"
abbrev pub going_on : Auction → ℕ → GoingPrice
going_on a p = going_price a.terms.unit (price_at a p) (ltb 0 (mark_at a p))

-- "A report gives a bidder its own records and f, all going prices, the phase, and a range for total excess supply"
unfoldable pub report_on : Auction → ℕ → Reported
report_on a b = record {
  report = Ok (record { free = tranches (free_of a b); phase = phase_of a.phase; range = range_of (excess a) });
  records = list_of (record_of a b) 8;
  prices = list_of (going_on a) 8;
}

abbrev pub report_refused : Refusal → Reported
report_refused e = record { report = Err e; records = replicate 8 nothing; prices = replicate 8 (going_price 0 0 false) }

abbrev pub price_if : ℕ → ℕ → ℕ
price_if n x = cond (ltb 0 n) x 0

-- the highest price of the lots, each looked at
abbrev pub exit_if : Lot → ℕ
exit_if l = price_if (count_of l) l.exit

abbrev pub highest_lot : Lots → ℕ
highest_lot l = max (exit_if l.one) (max (exit_if l.two) (max (exit_if l.three) (exit_if l.four)))

-- the highest price at which a record holds a tranche: g at p, d at q, r at its lots' exit prices; 0 where it holds none
abbrev pub highest_in : ℕ → ℕ → Record → ℕ
highest_in p q r = max (price_if (going_in r) p) (max (price_if (denied_in r) q) (highest_lot r.retained))

abbrev pub highest_up_to : Auction → ℕ → ℕ → ℕ
highest_up_to a p zero = 0
highest_up_to a p (suc n) = max (highest_up_to a p n) (highest_in (price_at a p) (before_at a p) (record_of a n p))

-- "the highest price of any held tranche, or the going price if none is held"
abbrev pub paid_on : Auction → ℕ → ℕ
paid_on a p = cond (eqb (highest_up_to a p a.terms.bidders) 0) (price_at a p) (highest_up_to a p a.terms.bidders)

-- "The result gives g + d + r for each bidder and product, and one price a product"
unfoldable pub result_of : Auction → Awarded
result_of a = record {
  award = Ok tt;
  tranches = list_of (λ k. tranches (held_in (record_at a.records k))) 256;
  prices = list_of (λ p. quote a.terms.unit (paid_on a p)) 8;
}

abbrev pub result_refused : Refusal → Awarded
result_refused e = record { award = Err e; tranches = replicate 256 (tranches 0); prices = replicate 8 (quote 0 0) }
