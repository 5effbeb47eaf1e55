-- One product more in a bid's sums, tests and numbers. Assumes nothing.
use mathlib.Core.Path.{◌≡◌, refl, sym, ◌∙◌, ap, ap₂}
use mathlib.Core.Bool.{Bool, true, false, ◌&&◌, cond, not}
use mathlib.Core.List.{List}
use Prim.Native.Nat.{ℕ, ◌+◌, ◌-◌, ◌≤◌, ◌<◌}
use native.Mathlib.Numerals.{add-one}
use native.Mathlib.Omega.{arith}
use borrow.Author.Tests.{eqb-true, eqb-false, leb-true, leb-false, ne_eqb, le-ltb, lt-leb}
use lib.ListN.{length, get_or, set, replicate, length-set, get_or-replicate}
use lib.Seq.{get_or-set_same, get_or-set_other}
use lib.Dec.{leb, ltb, eqb}
use mir.Val.{bool_byte}
use Rattle.rules.specs.declared.Auction.{Auction}
use Rattle.rules.specs.declared.Line.{Line}
use Rattle.rules.specs.declared.Record.{Record}
use Rattle.rules.specs.Count.{all_up_to}
use Rattle.rules.specs.Settings.{between, setup, cap_of}
use Rattle.rules.specs.Lots.{exits_fit}
use Rattle.rules.specs.Held.{going_in, denied_in, retained_in, ticked, free_of}
use Rattle.rules.specs.Bid.{bid_in, withdrawn_in, one_if, reduction, increase, record_of, on_product, price_at, before_at, judged}
use Rattle.rules.proofs.Lists.{all_ext}
use Rattle.rules.proofs.Tests.{said, is_eqb}
use Rattle.held.proofs.Found.{or_is}
use Rattle.bids.specs.declared.line.Kept.{Kept}
use Rattle.bids.specs.Lines.{is_increased, kept_first, kept_with, number_of}
use Rattle.bids.specs.declared.Sums.{Sums}
use Rattle.bids.specs.Tally.{summed, Small, Summed, KeptIn, Tallied, Numbers, once_each}

-- ---- exit prices

-- no number is above the largest
pub none_above : (p q x : ℕ) → p ≡ 4294967295 → x < 4294967296 → between 1 x 0 ≡ (ltb p x && leb x q)
none_above p q x e h = rw (le-ltb p x (omega arith)) (by (leb 1 x) refl)
  where
    by : (t : Bool) → leb 1 x ≡ t → (t && leb x 0) ≡ false
    by true f = lt-leb x 0 (omega (arith, leb-true 1 x f))
    by false f = refl

-- ---- the sums and the tests

pub small_8 : {m : ℕ} {t : Sums} → Small m t → m ≤ 8 → Small 8 t
small_8 s h = record {
  going = omega arith;
  bid = omega arith;
  reduced = omega arith;
  increased = omega arith;
  withdrawn = omega arith;
  rising = omega arith;
}

pub kept_none : {a : Auction} {r : ℕ → Record} {l : ℕ → Line} {t : Kept} → t ≡ kept_first → KeptIn 0 a r l t
unfolding all_up_to
kept_none e = rw e (record { caps = refl; ticks = refl; leaves = refl; exits = refl; others = refl; plain = refl })

module _ {m : ℕ} {r : ℕ → Record} {l : ℕ → Line} where
  pub sums_more : {t x : Sums} → Summed m r l t → x ≡ summed t (r m) (l m) → Summed (m + 1) r l x
  sums_more {t} {x} s e =
      rw (e, add-one m) (record {
        going = ap (λ n. n + going_in (r m)) s.going;
        bid = ap (λ n. n + bid_in (l m)) s.bid;
        reduced = ap (λ n. n + reduction (r m) (l m)) s.reduced;
        increased = ap (λ n. n + increase (r m) (l m)) s.increased;
        withdrawn = ap (λ n. n + withdrawn_in (l m)) s.withdrawn;
        rising = ap (λ n. n + one_if (is_increased (r m) (l m))) s.rising;
      })

  pub kept_more : {a : Auction} {t x : Kept} → KeptIn m a r l t
      → x ≡ kept_with t (r m) (l m) (cap_of (setup a) m) (ticked a m) (price_at a m) (before_at a m)
      → KeptIn (m + 1) a r l x
  unfolding all_up_to
  kept_more {a} {t} {x} s e =
      rw (e, add-one m) (record {
        caps = ap (λ t. t && leb (bid_in (l m) + denied_in (r m) + retained_in (r m)) (cap_of (setup a) m)) s.caps;
        ticks = ap₂ ◌&&◌ s.ticks (or_is {t = ticked a m} {u = eqb (reduction (r m) (l m)) 0} refl refl);
        leaves = ap (λ t. t && leb (withdrawn_in (l m)) (reduction (r m) (l m))) s.leaves;
        exits = ap (λ t. t && exits_fit (price_at a m) (before_at a m) (l m).withdrawn) s.exits;
        others = ap₂ ◌&&◌ s.others (or_is {t = is_increased (r m) (l m)} {u = eqb (l m).priority 0} refl refl);
        plain = ap (λ t. t && eqb (l m).priority 0) s.plain;
      })

-- ---- the priority numbers

marks_by : (t u : Bool) (x k : ℕ) → leb x 8 ≡ u → k < 8 → (t && eqb x (k + 1)) ≡ eqb (k + 1) (cond (t && u) x 0)
marks_by true true x k e h = is_eqb (eqb x (k + 1)) (k + 1) x (λ q. omega (arith, said)) (λ q f. omega (arith, said))
marks_by true false x k e h = let g = leb-false x 8 e in ne_eqb x (k + 1) (λ q. omega arith) ∙ sym (ne_eqb (k + 1) 0 (λ q. omega arith))
marks_by false u x k e h = sym (ne_eqb (k + 1) 0 (λ q. omega arith))

-- an increased product has the number k + 1 exactly where that is its number
marks : (r : Record) (l : Line) (k : ℕ) → k < 8 → (is_increased r l && eqb l.priority (k + 1)) ≡ eqb (k + 1) (number_of r l)
marks r l k h = marks_by (is_increased r l) (leb l.priority 8) l.priority k refl h

counted : (xs : List ℕ) (q : ℕ) → q < length xs → (i : ℕ) → get_or (set xs q (get_or xs q 0 + 1)) i 0 ≡ get_or xs i 0 + one_if (eqb i q)
counted xs q h i = by (eqb i q) refl
  where
    by : (t : Bool) → eqb i q ≡ t → get_or (set xs q (get_or xs q 0 + 1)) i 0 ≡ get_or xs i 0 + one_if t
    by true e = let f = eqb-true i q e in rw f (get_or-set_same xs q (get_or xs q 0 + 1) 0 h)
    by false e = get_or-set_other xs q i (get_or xs q 0 + 1) 0 (eqb-false i q e) ∙ omega arith

one_at_most : (t : Bool) → one_if t ≤ 1
one_at_most true = omega arith
one_at_most false = omega arith

pub numbers_none : (r : ℕ → Record) (l : ℕ → Line) → Numbers 0 r l (replicate 9 0)
numbers_none r l = record {
  long = refl;
  few = λ k h. omega (arith, get_or-replicate {A = ℕ} 9 k 0 0 h);
  each = λ k h. get_or-replicate 9 (k + 1) 0 0 (omega arith);
}

pub numbers_more : {m : ℕ} {r : ℕ → Record} {l : ℕ → Line} {xs : List ℕ} (q : ℕ) → Numbers m r l xs → q ≡ number_of (r m) (l m) → q ≤ 8
    → Numbers (m + 1) r l (set xs q (get_or xs q 0 + 1))
numbers_more {m} {r} {l} {xs} q n e h =
    let w : q < length xs = omega (arith, n.long) in
    record {
      long = length-set xs q (get_or xs q 0 + 1) ∙ n.long;
      few = λ k g. omega (arith, counted xs q w k, n.few k g, one_at_most (eqb k q));
      each = λ k g. counted xs q w (k + 1) ∙ rw (add-one m) (ap₂ ◌+◌ (n.each k g) (ap one_if (ap (eqb (k + 1)) e ∙ sym (marks (r m) (l m) k g))));
    }

-- whether a product is increased, as a number
pub counts_is : (t : Bool) → (bool_byte t ≡ one_if t) × (bool_byte t ≤ 1)
counts_is true = (refl, omega arith)
counts_is false = (refl, omega arith)

pub each_is : (a : Auction) (b : ℕ) (ls : List Line) {n : ℕ} {xs : List ℕ} → Numbers a.terms.products (record_of a b) (on_product ls) xs → n ≤ 8
    → all_up_to (λ k. eqb (get_or xs (k + 1) 0) 1) n ≡ once_each a b ls n
each_is a b ls {n} {xs} s h = all_ext _ _ n (λ k l. ap (λ x. eqb x 1) (s.each k (omega arith)))

-- ---- 8 to 13 by the sums and the tests; f the free eligibility

pub judged_is : (a : Auction) (b : ℕ) (ls : List Line) (s : Sums) (k : Kept) (f : ℕ)
    → Tallied a.terms.products a b ls s k → f ≡ free_of a b
    → cond (not k.caps) 8
    (cond (not k.ticks) 9
    (cond (ltb (s.going + f) s.bid) 10
    (cond (not (k.leaves && eqb s.withdrawn (s.reduced - (s.increased - f)))) 11
    (cond (not k.exits) 12
    (cond (not (cond (ltb 0 (s.increased - f)) (k.others && once_each a b ls s.rising) k.plain)) 13 0)))))
    ≡ judged a b ls
unfolding judged
judged_is a b ls s k f t e =
    let S = t.sums in
    let K = t.kept in
    rw (
      e,
      K.caps,
      K.ticks,
      K.leaves,
      K.exits,
      K.others,
      K.plain,
      S.going,
      S.bid,
      S.withdrawn,
      S.reduced,
      S.increased,
      S.rising,
    )
