-- The default bid is accepted in every standing open state. Assumes nothing.
use mathlib.Core.Path.{◌≡◌, refl, ◌∙◌, ap}
use mathlib.Core.Bool.{Bool, true, false, not}
use Prim.Native.Nat.{ℕ, ◌-◌, ◌≤◌, ◌<◌}
use native.Mathlib.Omega.{arith}
use borrow.Author.Tests.{le-ltb, eq-eqb}
use Rattle.rules.specs.declared.Line.{Line}
use Rattle.rules.specs.declared.Record.{Record}
use Rattle.rules.specs.declared.Auction.{Auction}
use Rattle.rules.specs.Settings.{setup, target_of, cap_of}
use Rattle.rules.specs.Lots.{ExitsFit}
use Rattle.rules.specs.Held.{going_in, held, ticked, free_of}
use Rattle.rules.specs.Bid.{bid_in, withdrawn_in, reduction, increases, record_of, price_at, before_at, default_line}
use Rattle.rules.specs.Legal.{is_open}
use Rattle.rules.proofs.Sums.{sum_ext, sum_le, sum_zero}
use Rattle.rules.proofs.Lists.{all_give, clash}
use Rattle.rules.proofs.LotLaws.{one_exit, none_exit}
use Rattle.rules.proofs.Signed.{above_true}
use Rattle.rules.specs.Stands.{Stands, Accepted}

-- what a default line is
record Default (tick : Bool) (q : ℕ) (r : Record) (l : Line) : Type 0 where
  bid : bid_in l ≤ going_in r
  withdrawn : withdrawn_in l ≡ going_in r - bid_in l
  same : tick ≡ false → bid_in l ≡ going_in r
  exits : (p : ℕ) → (tick ≡ true → p < q) → ExitsFit p q l.withdrawn
  priority : l.priority ≡ 0

default_is : (t : Bool) (q : ℕ) (r : Record) → Default t q r (default_line t q r)
default_is true q r = record {
  bid = omega arith;
  withdrawn = omega arith;
  same = λ e. clash refl e;
  exits = λ p h. one_exit p q (going_in r) q (λ _. (h refl, omega arith));
  priority = refl;
}
default_is false q r = record {
  bid = omega arith;
  withdrawn = omega arith;
  same = λ e. refl;
  exits = λ p h. none_exit p q;
  priority = refl;
}

module _ (a : Auction) (S : Stands a) (o : is_open a ≡ true) (b : ℕ) (hb : b < a.terms.bidders) where
  abbrev default : ℕ → Line
  default p = default_line (ticked a p) (before_at a p) (record_of a b p)

  is : (p : ℕ) → Default (ticked a p) (before_at a p) (record_of a b p) (default p)
  is p = default_is (ticked a p) (before_at a p) (record_of a b p)

  no_increase : increases a.terms.products (record_of a b) default ≡ 0
  no_increase = sum_ext _ (λ p. 0) a.terms.products (λ p h. omega (arith, (is p).bid)) ∙ sum_zero a.terms.products

  -- the default bid passes 8 to 13
  pub default_accepted : Accepted a.terms.products (ticked a) (cap_of (setup a)) (price_at a) (before_at a) (record_of a b)
      (λ p. default_line (ticked a p) (before_at a p) (record_of a b p)) (free_of a b)
  default_accepted = record {
    caps = λ p h. omega (arith, (is p).bid, S.caps b p hb h);
    ticks = λ p h t. omega (arith, (is p).same t);
    eligible = let x = sum_le (λ p. bid_in (default p)) (λ p. going_in (record_of a b p)) a.terms.products (λ p h. (is p).bid) in omega arith;
    withdrawn = λ p h. omega (arith, (is p).withdrawn);
    total =
        let x = sum_ext (λ p. withdrawn_in (default p)) (λ p. reduction (record_of a b p) (default p)) a.terms.products (λ p h. (is p).withdrawn) in
        omega (arith, no_increase);
    exits = λ p h.
        (is p).exits (price_at a p) (λ t. S.fell p h o (above_true (held a.records a.terms.bidders p) (target_of (setup a) p) t));
    numbered = rw (no_increase, le-ltb 0 (0 - free_of a b) (omega arith))
        (ap not (all_give _ a.terms.products (λ p h. eq-eqb _ _ (is p).priority)));
  }
