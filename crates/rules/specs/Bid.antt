-- "Rules of a bid." Assumes nothing.
use Rattle.std.specs.Prelude.{Bool, true, ◌&&◌, not, cond, List, ℕ, ◌+◌, ◌-◌, ◌/◌, ◌%◌, ◌^◌, get_or, leb, ltb, eqb}
use Rattle.rules.specs.declared.Line.{Line}
use Rattle.rules.specs.declared.Record.{Record}
use Rattle.rules.specs.declared.Auction.{Auction}
use Rattle.rules.specs.Count.{sum_up_to, all_up_to, list_of}
use Rattle.rules.specs.Parts.{lane_at}
use Rattle.rules.specs.Settings.{setup, cap_of}
use Rattle.rules.specs.Lots.{no_lots, one_lot, total, exits_fit}
use Rattle.rules.specs.Card.{line, no_line}
use Rattle.rules.specs.Held.{going_in, denied_in, retained_in, record_at, place, ticked, free_of}

abbrev pub bid_in : Line → ℕ
bid_in l = l.tranches.0

abbrev pub withdrawn_in : Line → ℕ
withdrawn_in l = total l.withdrawn

-- "Reduction R = g - b if positive, else 0. Increase I = b - g if positive, else 0."
abbrev pub reduction : Record → Line → ℕ
reduction r l = going_in r - bid_in l

abbrev pub increase : Record → Line → ℕ
increase r l = bid_in l - going_in r

abbrev pub one_if : Bool → ℕ
one_if t = cond t 1 0

-- ---- numbers 8 to 13, of a bidder with the records r, the lines l and the free eligibility f over m products

module _ (m : ℕ) (r : ℕ → Record) (l : ℕ → Line) where
  abbrev pub reductions : ℕ
  reductions = sum_up_to (λ p. reduction (r p) (l p)) m

  abbrev pub increases : ℕ
  increases = sum_up_to (λ p. increase (r p) (l p)) m

  -- "Increases use free eligibility first; the others, s in all, are switches."
  abbrev pub switches : ℕ → ℕ
  switches f = increases - f

  -- "Withdrawals over all products total w = sum of R - s."
  abbrev pub withdrawals : ℕ → ℕ
  withdrawals f = reductions - switches f

  -- 8: "some b + d + r above the product cap"
  abbrev pub over_cap : (ℕ → ℕ) → Bool
  over_cap cap = not (all_up_to (λ p. leb (bid_in (l p) + denied_in (r p) + retained_in (r p)) (cap p)) m)

  -- 9: "a reduction on a product that didn't tick"
  abbrev pub wrong_reduction : (ℕ → Bool) → Bool
  wrong_reduction tick = not (all_up_to (λ p. cond (tick p) true (eqb (reduction (r p) (l p)) 0)) m)

  -- 10: "sum of b above sum of g + f"
  abbrev pub over_eligible : ℕ → Bool
  over_eligible f = ltb (sum_up_to (λ p. going_in (r p)) m + f) (sum_up_to (λ p. bid_in (l p)) m)

  -- 11: "withdrawn above R on a product, or total not w"; it "judges the sum of lot counts"
  abbrev pub wrong_withdrawn : ℕ → Bool
  wrong_withdrawn f =
      not (
      all_up_to (λ p. leb (withdrawn_in (l p)) (reduction (r p) (l p))) m
      && eqb (sum_up_to (λ p. withdrawn_in (l p)) m) (withdrawals f))

  -- 12: "judges each price, the order and the zero lots"
  abbrev pub wrong_exit : (ℕ → ℕ) → (ℕ → ℕ) → Bool
  wrong_exit price before = not (all_up_to (λ p. exits_fit (price p) (before p) (l p).withdrawn) m)

  abbrev pub increased : ℕ → Bool
  increased p = ltb 0 (increase (r p) (l p))

  -- the increased products with the priority number k
  abbrev pub numbered : ℕ → ℕ
  numbered k = sum_up_to (λ p. one_if (increased p && eqb (l p).priority k)) m

  -- "increased products .. numbered 1 to k once each, others 0"
  abbrev pub well_numbered : Bool
  well_numbered =
      all_up_to (λ p. cond (increased p) true (eqb (l p).priority 0)) m
      && all_up_to (λ k. eqb (numbered (k + 1)) 1) (sum_up_to (λ p. one_if (increased p)) m)

  -- 13: "s > 0 and increased products not numbered 1 to k once each, others 0; or s = 0 and a priority not 0"
  abbrev pub wrong_priority : ℕ → Bool
  wrong_priority f =
      not (cond (ltb 0 (switches f)) well_numbered (all_up_to (λ p. eqb (l p).priority 0) m))

-- ---- a bid in an auction

abbrev pub record_of : Auction → ℕ → ℕ → Record
record_of a b p = record_at a.records (place b p)

abbrev pub price_at : Auction → ℕ → ℕ
price_at a p = (lane_at a p).price

abbrev pub before_at : Auction → ℕ → ℕ
before_at a p = (lane_at a p).before

-- 1 where p was overridden, else 0
abbrev pub mark_at : Auction → ℕ → ℕ
mark_at a p = (lane_at a p).mark

abbrev pub on_product : List Line → ℕ → Line
on_product ls p = get_or ls p no_line

-- 8 to 13 of bidder b's lines, each judged over all products before the next; 0 where none applies
unfoldable pub judged : Auction → ℕ → List Line → ℕ
judged a b ls =
    cond (over_cap a.terms.products (record_of a b) (on_product ls) (cap_of (setup a))) 8
    (cond (wrong_reduction a.terms.products (record_of a b) (on_product ls) (ticked a)) 9
    (cond (over_eligible a.terms.products (record_of a b) (on_product ls) (free_of a b)) 10
    (cond (wrong_withdrawn a.terms.products (record_of a b) (on_product ls) (free_of a b)) 11
    (cond (wrong_exit a.terms.products (record_of a b) (on_product ls) (price_at a) (before_at a)) 12
    (cond (wrong_priority a.terms.products (record_of a b) (on_product ls) (free_of a b)) 13
    0)))))

-- "A bitmap marks who has filed"
abbrev pub has_filed : Auction → ℕ → Bool
has_filed a b = eqb (a.cards.filed / 2 ^ b % 2) 1

-- the lines that bidder b has filed
abbrev pub slot_of : Auction → ℕ → List Line
slot_of a b = list_of (λ p. get_or a.cards.lines (place b p) no_line) 8

-- "No card: the default bid is 0 on each ticked product, all withdrawn at exit price q, and b = g elsewhere." Document 02: it "is one lot at
-- q"; no lot where g is 0
abbrev pub default_line : Bool → ℕ → Record → Line
default_line tick q r = cond tick (line 0 (one_lot (going_in r) q) 0) (line (going_in r) no_lots 0)

-- the bid of bidder b on product p: its card's, or the default
abbrev pub bid_on : Auction → ℕ → ℕ → Line
bid_on a b p =
    cond (has_filed a b) (get_or a.cards.lines (place b p) no_line) (default_line (ticked a p) (before_at a p) (record_of a b p))
