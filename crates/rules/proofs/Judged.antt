-- A card judged 0 is an accepted bid, and back; what a judgement turns on. Assumes nothing.
use mathlib.Core.Path.{◌≡◌, refl, sym, ◌∙◌, ap}
use mathlib.Core.Bool.{Bool, true, false, ◌&&◌, not, cond}
use mathlib.Core.List.{List, []}
use Prim.Native.Nat.{ℕ, ◌+◌, ◌-◌, ◌≤◌, ◌<◌}
use native.Mathlib.Omega.{arith}
use borrow.Author.Tests.{ltb-true, ltb-false, leb-true, le-leb, eq-eqb, not-false}
use lib.Dec.{eqb, leb}
use Rattle.rules.specs.declared.Line.{Line}
use Rattle.rules.specs.declared.Record.{Record}
use Rattle.rules.specs.declared.Auction.{Auction}
use Rattle.rules.specs.Count.{sum_up_to, all_up_to}
use Rattle.rules.specs.Parts.{table, cards, auction}
use Rattle.rules.specs.Settings.{setup, cap_of}
use Rattle.rules.specs.Held.{going_in, ticked, free_of}
use Rattle.rules.specs.Bid.{bid_in, withdrawn_in, reduction, increase, reductions, increases, withdrawals, over_cap, wrong_reduction, over_eligible, wrong_withdrawn, wrong_exit, increased, numbered, one_if, wrong_priority, record_of, price_at, before_at, on_product, judged}
use Rattle.rules.proofs.Sums.{sum_ext, sum_six, and_left}
use Rattle.rules.proofs.Lists.{both, all_give, all_take, all_ext}
use Rattle.rules.proofs.Tests.{told, sure_false}
use Rattle.rules.proofs.LotLaws.{exits_take, exits_give}
use Rattle.rules.specs.Stands.{Accepted}

-- a number not given
passed : (t : Bool) (n x : ℕ) → 0 < n → cond t n x ≡ 0 → (t ≡ false) × (x ≡ 0)
passed true n x h e = absurd (let z : ⊥ = omega arith in z)
passed false n x h e = (refl, e)

-- no product is wrong
none_wrong : (test : ℕ → Bool) (m : ℕ) → not (all_up_to test m) ≡ false → (p : ℕ) → p < m → test p ≡ true
none_wrong test m e = all_take test m (not-false (all_up_to test m) e)

-- and back
all_right : (test : ℕ → Bool) (m : ℕ) → ((p : ℕ) → p < m → test p ≡ true) → not (all_up_to test m) ≡ false
all_right test m h = ap not (all_give test m h)

module _ (m : ℕ) (tick : ℕ → Bool) (cap price before : ℕ → ℕ) (r : ℕ → Record) (l : ℕ → Line) (f : ℕ) where
  -- 8 to 13, of the parts that they turn on
  abbrev verdict : ℕ
  verdict =
      cond (over_cap m r l cap) 8
      (cond (wrong_reduction m r l tick) 9
      (cond (over_eligible m r l f) 10
      (cond (wrong_withdrawn m r l f) 11
      (cond (wrong_exit m r l price before) 12
      (cond (wrong_priority m r l f) 13 0)))))

  -- increases and what was held are the bid and its reductions
  balance : increases m r l + sum_up_to (λ p. going_in (r p)) m ≡ sum_up_to (λ p. bid_in (l p)) m + reductions m r l
  balance =
      let s = sum_six (λ p. increase (r p) (l p)) (λ p. going_in (r p)) (λ p. 0) (λ p. bid_in (l p)) (λ p. reduction (r p) (l p)) (λ p. 0) m
      (λ p h. omega arith) in
      omega arith

  -- a verdict of 0 accepts
  verdict_take : verdict ≡ 0 → Accepted m tick cap price before r l f
  verdict_take e =
      let p8 = passed (over_cap m r l cap) 8 _ (omega arith) e in
      let p9 = passed (wrong_reduction m r l tick) 9 _ (omega arith) p8.1 in
      let p10 = passed (over_eligible m r l f) 10 _ (omega arith) p9.1 in
      let p11 = passed (wrong_withdrawn m r l f) 11 _ (omega arith) p10.1 in
      let p12 = passed (wrong_exit m r l price before) 12 _ (omega arith) p11.1 in
      let p13 = passed (wrong_priority m r l f) 13 _ (omega arith) p12.1 in
      let fits : sum_up_to (λ p. bid_in (l p)) m ≤ sum_up_to (λ p. going_in (r p)) m + f = omega (arith, ltb-false) in
      let w = not-false (all_up_to (λ p. leb (withdrawn_in (l p)) (reduction (r p) (l p))) m && eqb (sum_up_to (λ p. withdrawn_in (l p)) m) (withdrawals m r l f)) p11.0 in
      let same : sum_up_to (λ p. withdrawn_in (l p)) m ≡ withdrawals m r l f = search told in
      record {
        caps = λ p h. leb-true _ _ (none_wrong _ m p8.0 p h);
        ticks = λ p h t. let x = rw t at (none_wrong _ m p9.0 p h) in let z : going_in (r p) - bid_in (l p) ≡ 0 = search told in omega arith;
        eligible = fits;
        withdrawn = λ p h. leb-true _ _ (all_take _ m (and_left _ _ w) p h);
        total = omega (arith, balance);
        exits = λ p h. exits_take (price p) (before p) (l p).withdrawn (none_wrong _ m p12.0 p h);
        numbered = p13.0;
      }

  tick_by : Accepted m tick cap price before r l f → (p : ℕ) → p < m → (t : Bool) → tick p ≡ t → cond t true (eqb (reduction (r p) (l p)) 0) ≡ true
  tick_by A p h true e = refl
  tick_by A p h false e = let x = A.ticks p h e in eq-eqb (going_in (r p) - bid_in (l p)) 0 (omega arith)

  -- and back
  verdict_give : Accepted m tick cap price before r l f → verdict ≡ 0
  verdict_give A =
      let p8 : over_cap m r l cap ≡ false = all_right _ m (λ p h. le-leb _ _ (A.caps p h)) in
      let p9 : wrong_reduction m r l tick ≡ false = all_right _ m (λ p h. tick_by A p h (tick p) refl) in
      let p10 : over_eligible m r l f ≡ false = sure_false _ (λ e. omega (arith, A.eligible, ltb-true)) in
      let p11 : wrong_withdrawn m r l f ≡ false =
      ap not (both (all_give _ m (λ p h. le-leb _ _ (A.withdrawn p h))) (eq-eqb (sum_up_to (λ p. withdrawn_in (l p)) m) (withdrawals m r l f) (omega (arith, A.total)))) in
      let p12 : wrong_exit m r l price before ≡ false = all_right _ m (λ p h. exits_give (price p) (before p) (l p).withdrawn (A.exits p h)) in
      rw (p8, p9, p10, p11, p12, A.numbered)

-- the same lines on the products in use are judged alike
module _ (m : ℕ) (tick : ℕ → Bool) (cap price before : ℕ → ℕ) (r : ℕ → Record) (l k : ℕ → Line) (f : ℕ) (q : (p : ℕ) → p < m → l p ≡ k p) where
  verdict_ext : verdict m tick cap price before r l f ≡ verdict m tick cap price before r k f
  verdict_ext =
      let p8 : over_cap m r l cap ≡ over_cap m r k cap = ap not (all_ext _ _ m (λ p h. rw (q p h))) in
      let p9 : wrong_reduction m r l tick ≡ wrong_reduction m r k tick = ap not (all_ext _ _ m (λ p h. rw (q p h))) in
      let p12 : wrong_exit m r l price before ≡ wrong_exit m r k price before = ap not (all_ext _ _ m (λ p h. rw (q p h))) in
      let b : sum_up_to (λ p. bid_in (l p)) m ≡ sum_up_to (λ p. bid_in (k p)) m = sum_ext _ _ m (λ p h. rw (q p h)) in
      let i : increases m r l ≡ increases m r k = sum_ext _ _ m (λ p h. rw (q p h)) in
      let d : reductions m r l ≡ reductions m r k = sum_ext _ _ m (λ p h. rw (q p h)) in
      let w : sum_up_to (λ p. withdrawn_in (l p)) m ≡ sum_up_to (λ p. withdrawn_in (k p)) m = sum_ext _ _ m (λ p h. rw (q p h)) in
      let u = all_ext (λ p. leb (withdrawn_in (l p)) (reduction (r p) (l p))) (λ p. leb (withdrawn_in (k p)) (reduction (r p) (k p))) m
      (λ p h. rw (q p h)) in
      let o = all_ext (λ p. eqb (l p).priority 0) (λ p. eqb (k p).priority 0) m (λ p h. rw (q p h)) in
      let n = all_ext (λ p. cond (increased m r l p) true (eqb (l p).priority 0)) (λ p. cond (increased m r k p) true (eqb (k p).priority 0)) m
      (λ p h. rw (q p h)) in
      let c = sum_ext (λ p. one_if (increased m r l p)) (λ p. one_if (increased m r k p)) m (λ p h. rw (q p h)) in
      let e = all_ext (λ j. eqb (numbered m r l (j + 1)) 1) (λ j. eqb (numbered m r k (j + 1)) 1) (sum_up_to (λ p. one_if (increased m r k p)) m)
      (λ j g. ap (λ x. eqb x 1) (sum_ext _ _ m (λ p h. rw (q p h)))) in
      rw (p8, p9, b, u, w, d, i, p12, n, c, e, o)

  -- and accepted alike
  pub accepted_ext : Accepted m tick cap price before r l f → Accepted m tick cap price before r k f
  accepted_ext A =
      verdict_take m tick cap price before r k f (sym verdict_ext ∙ verdict_give m tick cap price before r l f A)

-- ---- a card in an auction

-- a card judged 0 is an accepted bid
pub judged_take : (a : Auction) (b : ℕ) (ls : List Line) → judged a b ls ≡ 0
    → Accepted a.terms.products (ticked a) (cap_of (setup a)) (price_at a) (before_at a) (record_of a b) (on_product ls) (free_of a b)
unfolding judged
judged_take a b ls e = verdict_take _ _ _ _ _ _ _ _ e

-- an accepted bid is judged 0
pub judged_give : (a : Auction) (b : ℕ) (ls : List Line)
    → Accepted a.terms.products (ticked a) (cap_of (setup a)) (price_at a) (before_at a) (record_of a b) (on_product ls) (free_of a b)
    → judged a b ls ≡ 0
unfolding judged
judged_give a b ls A = verdict_give _ _ _ _ _ _ _ _ A

-- with the cards left out
bare : Auction → Auction
bare a = auction 0 0 a.terms a.lanes a.seats (table 0 []) a.records (cards 0 [])

-- they do not matter to a judgement
judged_bare : (a : Auction) (b : ℕ) (ls : List Line) → judged a b ls ≡ judged (bare a) b ls
unfolding judged bare
judged_bare a b ls = refl

-- auctions that agree in terms, lanes, seats and records judge alike, whoever has filed
pub judged_ext : (a c : Auction) (b : ℕ) (ls : List Line) → a.terms ≡ c.terms → a.lanes ≡ c.lanes → a.seats ≡ c.seats
    → a.records ≡ c.records → judged a b ls ≡ judged c b ls
unfolding bare
judged_ext a c b ls t l s r = let e : bare a ≡ bare c = cc in judged_bare a b ls ∙ ap (λ d. judged d b ls) e ∙ sym (judged_bare c b ls)
