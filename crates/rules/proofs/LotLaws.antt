-- The laws of four lots: the first used is the lowest and the last the highest, what is retained is a beginning of the card's, and so a
-- record never needs a fifth. Assumes nothing.
use mathlib.Core.Path.{◌≡◌, refl, sym, ◌∙◌, subst}
use mathlib.Core.Bool.{Bool, true, false, ◌&&◌, cond}
use Prim.Native.Nat.{ℕ, zero, suc, ◌+◌, ◌-◌, ◌≤◌, ◌<◌}
use native.Mathlib.Omega.{arith}
use borrow.Author.Tests.{lt-ltb, ltb-true, ltb-false, eqb-true, eq-eqb, ne_eqb}
use lib.Dec.{leb, ltb, eqb}
use Rattle.rules.specs.declared.Lot.{Lot}
use Rattle.rules.specs.declared.Lots.{Lots}
use Rattle.rules.specs.Lots.{lot, no_lot, count_of, is_used, lots, no_lots, one_lot, lot_at, put, total, first_used, last_used, lowest, highest, follows, in_order, exits_fit, lots_zero, Follows, Ordered, ExitFits, ExitsFit, fewer, take_first, retain_at, outbid_lot, outbid_last, Part, Spent, Beginning, Within, AllWithin}
use Rattle.rules.proofs.Sums.{and_left, and_right}
use Rattle.rules.proofs.Tests.{told, shown}

-- ---- where the first used lot is, and the last

pub data First (l : Lots) : ℕ → Type 0 where
  at0 : 0 < count_of l.one → First l 0
  at1 : count_of l.one ≤ 0 → 0 < count_of l.two → First l 1
  at2 : count_of l.one ≤ 0 → count_of l.two ≤ 0 → 0 < count_of l.three → First l 2
  at3 : count_of l.one ≤ 0 → count_of l.two ≤ 0 → count_of l.three ≤ 0 → First l 3

first_by : (l : Lots) (s t u : Bool) → is_used l.one ≡ s → is_used l.two ≡ t → is_used l.three ≡ u
    → First l (cond s 0 (cond t 1 (cond u 2 3)))
first_by l true t u e f g = at0 (ltb-true _ _ e)
first_by l false true u e f g = at1 (ltb-false _ _ e) (ltb-true _ _ f)
first_by l false false true e f g = at2 (ltb-false _ _ e) (ltb-false _ _ f) (ltb-true _ _ g)
first_by l false false false e f g = at3 (ltb-false _ _ e) (ltb-false _ _ f) (ltb-false _ _ g)

pub first_at : (l : Lots) → First l (first_used l)
unfolding first_used
first_at l = first_by l (is_used l.one) (is_used l.two) (is_used l.three) refl refl refl

pub data Last (l : Lots) : ℕ → Type 0 where
  last0 : count_of l.two ≤ 0 → count_of l.three ≤ 0 → count_of l.four ≤ 0 → Last l 0
  last1 : 0 < count_of l.two → count_of l.three ≤ 0 → count_of l.four ≤ 0 → Last l 1
  last2 : 0 < count_of l.three → count_of l.four ≤ 0 → Last l 2
  last3 : 0 < count_of l.four → Last l 3

last_by : (l : Lots) (s t u : Bool) → is_used l.four ≡ s → is_used l.three ≡ t → is_used l.two ≡ u
    → Last l (cond s 3 (cond t 2 (cond u 1 0)))
last_by l true t u e f g = last3 (ltb-true _ _ e)
last_by l false true u e f g = last2 (ltb-true _ _ f) (ltb-false _ _ e)
last_by l false false true e f g = last1 (ltb-true _ _ g) (ltb-false _ _ f) (ltb-false _ _ e)
last_by l false false false e f g = last0 (ltb-false _ _ g) (ltb-false _ _ f) (ltb-false _ _ e)

pub last_at : (l : Lots) → Last l (last_used l)
unfolding last_used
last_at l = last_by l (is_used l.four) (is_used l.three) (is_used l.two) refl refl refl

-- where there is a tranche, those lots have one
first_has : (l : Lots) (i : ℕ) → First l i → 0 < total l → 0 < count_of (lot_at l i)
first_has l i (at0 h) some = h
first_has l i (at1 g h) some = h
first_has l i (at2 f g h) some = h
first_has l i (at3 f g h) some = omega arith

pub first_some : (l : Lots) → 0 < total l → 0 < count_of (lot_at l (first_used l))
first_some l some = first_has l (first_used l) (first_at l) some

last_has : (l : Lots) (i : ℕ) → Last l i → 0 < total l → 0 < count_of (lot_at l i)
last_has l i (last0 f g h) some = omega arith
last_has l i (last1 f g h) some = f
last_has l i (last2 g h) some = g
last_has l i (last3 h) some = h

pub last_some : (l : Lots) → 0 < total l → 0 < count_of (lot_at l (last_used l))
last_some l some = last_has l (last_used l) (last_at l) some

-- ---- sums: each move is of one tranche

put_total : (l : Lots) (i : ℕ) (v : Lot) → total (put l i v) + count_of (lot_at l i) ≡ total l + count_of v
put_total l zero v = omega arith
put_total l (suc zero) v = omega arith
put_total l (suc (suc zero)) v = omega arith
put_total l (suc (suc (suc i))) v =
    let i0 = ne_eqb (suc (suc (suc i))) 0 (λ e. omega arith) in
    let i1 = ne_eqb (suc (suc (suc i))) 1 (λ e. omega arith) in
    let i2 = ne_eqb (suc (suc (suc i))) 2 (λ e. omega arith) in
    rw (i0, i1, i2) (omega arith)

pub at_total : (l : Lots) (i : ℕ) → count_of (lot_at l i) ≤ total l
at_total l i = let e = put_total l i no_lot in omega arith

pub retain_total : (l : Lots) (i x : ℕ) → total (retain_at l i x) ≡ total l + 1
retain_total l i x = let e = put_total l i (lot (count_of (lot_at l i) + 1) x) in omega arith

pub take_total : (l : Lots) → 0 < total l → total (take_first l) + 1 ≡ total l
take_total l some =
    let e = put_total l (first_used l) (fewer (lot_at l (first_used l))) in
    let h = first_some l some in
    omega arith

outbid_count : (y : Lot) (t : Bool) → ltb 1 (count_of y) ≡ t → count_of (cond t (fewer y) no_lot) ≡ count_of y - 1
outbid_count y true e = refl
outbid_count y false e = let k = ltb-false 1 (count_of y) e in omega arith

pub outbid_total : (l : Lots) → 0 < total l → total (outbid_last l) + 1 ≡ total l
outbid_total l some =
    let e = put_total l (last_used l) (outbid_lot (lot_at l (last_used l))) in
    let n = outbid_count (lot_at l (last_used l)) (ltb 1 (count_of (lot_at l (last_used l)))) refl in
    let h = last_some l some in
    omega arith

pub outbid_less : (l : Lots) → total (outbid_last l) ≤ total l
outbid_less l =
    let e = put_total l (last_used l) (outbid_lot (lot_at l (last_used l))) in
    let n = outbid_count (lot_at l (last_used l)) (ltb 1 (count_of (lot_at l (last_used l)))) refl in
    omega arith

pub one_total : (n x : ℕ) → total (one_lot n x) ≡ n
one_total n x = omega arith

-- ---- 12's tests are its facts

leads_by : (x : Lot) (t : Bool) → is_used x ≡ t → cond t true (eqb x.exit 0) ≡ true → count_of x ≤ 0 → x.exit ≡ 0
leads_by x true e f z = let k = ltb-true 0 (count_of x) e in absurd (let f : ⊥ = omega arith in f)
leads_by x false e f z = eqb-true _ _ f

follows_by : (x y : Lot) (t : Bool) → is_used y ≡ t → cond t (is_used x && ltb x.exit y.exit) (eqb y.exit 0) ≡ true → Follows x y
follows_by x y true e f =
    let k = ltb-true 0 (count_of y) e in
    record {
      unused = λ z. absurd (let f : ⊥ = omega arith in f);
      after = λ z. ltb-true _ _ (and_left (is_used x) _ f);
      rises = λ z. ltb-true _ _ (and_right (is_used x) _ f);
    }
follows_by x y false e f =
    let k = ltb-false 0 (count_of y) e in
    record {
      unused = λ z. eqb-true _ _ f;
      after = λ z. absurd (let f : ⊥ = omega arith in f);
      rises = λ z. absurd (let f : ⊥ = omega arith in f);
    }

exit_by : (p q : ℕ) (x : Lot) (t : Bool) → is_used x ≡ t → cond t (ltb p x.exit && leb x.exit q) true ≡ true → ExitFits p q x
exit_by p q x true e f z = search told
exit_by p q x false e f z = let k = ltb-false 0 (count_of x) e in absurd (let f : ⊥ = omega arith in f)

order_take : (l : Lots) → in_order l ≡ true → Ordered l
unfolding in_order
order_take l e = record {
  leads = leads_by l.one (is_used l.one) refl (search told);
  second = follows_by l.one l.two (is_used l.two) refl (search told);
  third = follows_by l.two l.three (is_used l.three) refl (search told);
  fourth = follows_by l.three l.four (is_used l.four) refl (search told);
}

pub exits_take : (p q : ℕ) (l : Lots) → exits_fit p q l ≡ true → ExitsFit p q l
unfolding exits_fit
exits_take p q l e = record {
  order = order_take l (search told);
  one = exit_by p q l.one (is_used l.one) refl (search told);
  two = exit_by p q l.two (is_used l.two) refl (search told);
  three = exit_by p q l.three (is_used l.three) refl (search told);
  four = exit_by p q l.four (is_used l.four) refl (search told);
}

-- and back

leads_is : (x : Lot) (t : Bool) → is_used x ≡ t → (count_of x ≤ 0 → x.exit ≡ 0) → cond t true (eqb x.exit 0) ≡ true
leads_is x true e f = refl
leads_is x false e f = eq-eqb x.exit 0 (f (ltb-false 0 (count_of x) e))

follows_is : (x y : Lot) (t : Bool) → is_used y ≡ t → Follows x y
    → cond t (is_used x && ltb x.exit y.exit) (eqb y.exit 0) ≡ true
follows_is x y true e f =
    let k = ltb-true 0 (count_of y) e in
    rw (lt-ltb 0 (count_of x) (f.after k), lt-ltb x.exit y.exit (f.rises k))
follows_is x y false e f = eq-eqb y.exit 0 (f.unused (ltb-false 0 (count_of y) e))

exit_is : (p q : ℕ) (x : Lot) (t : Bool) → is_used x ≡ t → ExitFits p q x → cond t (ltb p x.exit && leb x.exit q) true ≡ true
exit_is p q x true e f = let k = f (ltb-true 0 (count_of x) e) in search shown
exit_is p q x false e f = refl

order_give : (l : Lots) → Ordered l → in_order l ≡ true
unfolding in_order
order_give l O =
    let a = leads_is l.one (is_used l.one) refl O.leads in
    let b : follows l.one l.two ≡ true = follows_is l.one l.two (is_used l.two) refl O.second in
    let c : follows l.two l.three ≡ true = follows_is l.two l.three (is_used l.three) refl O.third in
    let d : follows l.three l.four ≡ true = follows_is l.three l.four (is_used l.four) refl O.fourth in
    rw (a, b, c, d)

pub exits_give : (p q : ℕ) (l : Lots) → ExitsFit p q l → exits_fit p q l ≡ true
unfolding exits_fit
exits_give p q l E =
    let o = order_give l E.order in
    let a = exit_is p q l.one (is_used l.one) refl E.one in
    let b = exit_is p q l.two (is_used l.two) refl E.two in
    let c = exit_is p q l.three (is_used l.three) refl E.three in
    let d = exit_is p q l.four (is_used l.four) refl E.four in
    rw (o, a, b, c, d)

-- ---- no lots, and one

zero_lot : (x : Lot) → count_of x ≤ 0 → x.exit ≡ 0 → x ≡ no_lot
zero_lot x h e = let f : count_of x ≡ 0 = omega arith in λ i. lot (f i) (e i)

-- ordered lots with no tranche are no lots
pub none_left : (l : Lots) → Ordered l → total l ≤ 0 → l ≡ no_lots
none_left l O h =
    let a = zero_lot l.one (omega arith) (O.leads (omega arith)) in
    let b = zero_lot l.two (omega arith) (O.second.unused (omega arith)) in
    let c = zero_lot l.three (omega arith) (O.third.unused (omega arith)) in
    let d = zero_lot l.four (omega arith) (O.fourth.unused (omega arith)) in
    λ i. lots (a i) (b i) (c i) (d i)

pub zero_none : (l : Lots) → lots_zero l ≡ true → l ≡ no_lots
zero_none l e =
    let n1 : count_of l.one ≡ 0 = search told in
    let n2 : count_of l.two ≡ 0 = search told in
    let n3 : count_of l.three ≡ 0 = search told in
    let n4 : count_of l.four ≡ 0 = search told in
    let x1 : l.one.exit ≡ 0 = search told in
    let x2 : l.two.exit ≡ 0 = search told in
    let x3 : l.three.exit ≡ 0 = search told in
    let x4 : l.four.exit ≡ 0 = search told in
    λ i. lots (lot (n1 i) (x1 i)) (lot (n2 i) (x2 i)) (lot (n3 i) (x3 i)) (lot (n4 i) (x4 i))

no_lot_follows : (x : Lot) → Follows x no_lot
no_lot_follows x = record {
  unused = λ z. refl;
  after = λ z. absurd (let f : ⊥ = omega arith in f);
  rises = λ z. absurd (let f : ⊥ = omega arith in f);
}

no_lot_fits : (p q : ℕ) → ExitFits p q no_lot
no_lot_fits p q z = absurd (let f : ⊥ = omega arith in f)

one_leads : (n x : ℕ) (t : Bool) → ltb 0 n ≡ t → n ≤ 0 → cond t x 0 ≡ 0
one_leads n x true e h = let k = ltb-true 0 n e in absurd (let f : ⊥ = omega arith in f)
one_leads n x false e h = refl

one_fits : (p q n x : ℕ) → p < x → x ≤ q → (t : Bool) → ltb 0 n ≡ t → 0 < n → (p < cond t x 0) × (cond t x 0 ≤ q)
one_fits p q n x l m true e h = (l, m)
one_fits p q n x l m false e h = let k = ltb-false 0 n e in absurd (let f : ⊥ = omega arith in f)

-- one lot, or none, passes 12 where its price does
pub one_exit : (p q n x : ℕ) → (0 < n → (p < x) × (x ≤ q)) → ExitsFit p q (one_lot n x)
one_exit p q n x h = record {
  order = record {
    leads = one_leads n x (ltb 0 n) refl;
    second = no_lot_follows _;
    third = no_lot_follows _;
    fourth = no_lot_follows _;
  };
  one = λ z. one_fits p q n x (h z).0 (h z).1 (ltb 0 n) refl z;
  two = no_lot_fits p q;
  three = no_lot_fits p q;
  four = no_lot_fits p q;
}

pub none_exit : (p q : ℕ) → ExitsFit p q no_lots
none_exit p q = record {
  order = record {
    leads = λ z. refl;
    second = no_lot_follows _;
    third = no_lot_follows _;
    fourth = no_lot_follows _;
  };
  one = no_lot_fits p q;
  two = no_lot_fits p q;
  three = no_lot_fits p q;
  four = no_lot_fits p q;
}

-- ---- no price of lots that fit is above q

exit_most : (p q : ℕ) (x : Lot) → (count_of x ≤ 0 → x.exit ≡ 0) → ExitFits p q x → (t : Bool) → is_used x ≡ t → x.exit ≤ q
exit_most p q x z f true e = (f (ltb-true 0 (count_of x) e)).1
exit_most p q x z f false e = let k = z (ltb-false 0 (count_of x) e) in omega arith

pub record Most (q : ℕ) (l : Lots) : Type 0 where
  pub one : l.one.exit ≤ q
  pub two : l.two.exit ≤ q
  pub three : l.three.exit ≤ q
  pub four : l.four.exit ≤ q

pub exits_most : (p q : ℕ) (l : Lots) → ExitsFit p q l → Most q l
exits_most p q l E = record {
  one = exit_most p q l.one E.order.leads E.one (is_used l.one) refl;
  two = exit_most p q l.two E.order.second.unused E.two (is_used l.two) refl;
  three = exit_most p q l.three E.order.third.unused E.three (is_used l.three) refl;
  four = exit_most p q l.four E.order.fourth.unused E.four (is_used l.four) refl;
}

-- ---- the record's lots are a beginning of the card's

-- where nothing was retained before,
module _ (c : Lots) where
  part_whole : (c : Lot) → Part c c no_lot
  part_whole c = record { whole = omega arith; price = refl; unkept = λ z. refl; kept = λ z. absurd (let f : ⊥ = omega arith in f) }

  none_spent : (l : Lot) → Spent l no_lot
  none_spent l z = absurd (let f : ⊥ = omega arith in f)

  pub beginning_none : Beginning c c no_lots
  beginning_none = record {
    first = part_whole _;
    second = part_whole _;
    third = part_whole _;
    fourth = part_whole _;
    spent_first = none_spent c.one;
    spent_second = none_spent c.two;
    spent_third = none_spent c.three;
  }

  pub beginning_starts : (r : Lots) → Ordered r → total r ≤ 0 → Beginning c c r
  beginning_starts r O h = subst (Beginning c c) (sym (none_left r O h)) beginning_none

-- after each tranche kept: it goes from the first lot left to the same lot of the record,
module _ (c l r : Lots) (B : Beginning c l r) (some : 0 < total l) where
  step_part : (c l r : Lot) → Part c l r → 0 < count_of l → Part c (fewer l) (lot (count_of r + 1) l.exit)
  step_part c l r p h = record {
    whole = omega (arith, p.whole);
    price = p.price;
    unkept = λ z. absurd (let f : ⊥ = omega arith in f);
    kept = λ z. p.price;
  }

  step_by : (i : ℕ) → First l i → Beginning c (put l i (fewer (lot_at l i))) (retain_at r i (lot_at l i).exit)
  step_by i (at0 h) = record {
    first = step_part _ _ _ B.first h;
    second = B.second;
    third = B.third;
    fourth = B.fourth;
    spent_first = λ z. let d = B.spent_first z in omega arith;
    spent_second = B.spent_second;
    spent_third = B.spent_third;
  }
  step_by i (at1 g h) = record {
    first = B.first;
    second = step_part _ _ _ B.second h;
    third = B.third;
    fourth = B.fourth;
    spent_first = λ z. g;
    spent_second = λ z. let d = B.spent_second z in omega arith;
    spent_third = B.spent_third;
  }
  step_by i (at2 f g h) = record {
    first = B.first;
    second = B.second;
    third = step_part _ _ _ B.third h;
    fourth = B.fourth;
    spent_first = B.spent_first;
    spent_second = λ z. g;
    spent_third = λ z. let d = B.spent_third z in omega arith;
  }
  step_by i (at3 f g h) = record {
    first = B.first;
    second = B.second;
    third = B.third;
    fourth = step_part _ _ _ B.fourth (omega arith);
    spent_first = B.spent_first;
    spent_second = B.spent_second;
    spent_third = λ z. h;
  }

  pub beginning_step : Beginning c (take_first l) (retain_at r (first_used l) (lowest l))
  beginning_step = step_by (first_used l) (first_at l)

-- and so it is ordered as on a card
module _ (c l r : Lots) (O : Ordered c) (B : Beginning c l r) where
  part_follows : (c l r c' l' r' : Lot) → Part c l r → Part c' l' r' → Spent l r' → Follows c c' → Follows r r'
  part_follows c l r c' l' r' p p' d f = record {
    unused = p'.unkept;
    after = λ z. let x = f.after (omega (arith, p'.whole)) in omega (arith, p.whole, d z);
    rises = λ z.
        let x = f.after (omega (arith, p'.whole)) in
        let y = f.rises (omega (arith, p'.whole)) in
        omega (arith, p.kept (omega (arith, p.whole, d z)), p'.kept z);
  }

  pub beginning_ordered : Ordered r
  beginning_ordered = record {
    leads = B.first.unkept;
    second = part_follows _ _ _ _ _ _ B.first B.second B.spent_first O.second;
    third = part_follows _ _ _ _ _ _ B.second B.third B.spent_second O.third;
    fourth = part_follows _ _ _ _ _ _ B.third B.fourth B.spent_third O.fourth;
  }

-- ---- lots within lots

pub within_refl : (l : Lots) → AllWithin l l
within_refl l = record { one = same l.one; two = same l.two; three = same l.three; four = same l.four }
  where
    same : (x : Lot) → Within x x
    same x = record { few = omega arith; price = λ z. refl }

pub within_trans : (x y z : Lots) → AllWithin x y → AllWithin y z → AllWithin x z
within_trans x y z f g =
    record { one = then f.one g.one; two = then f.two g.two; three = then f.three g.three; four = then f.four g.four }
  where
    then : {x y z : Lot} → Within x y → Within y z → Within x z
    then f g = record { few = omega arith; price = λ k. g.price k ∙ f.price (omega (arith, g.few)) }

-- a beginning is within the card's lots,
pub beginning_within : (c l r : Lots) → Beginning c l r → AllWithin c r
beginning_within c l r B = record { one = part B.first; two = part B.second; three = part B.third; four = part B.fourth }
  where
    part : {c l r : Lot} → Part c l r → Within c r
    part p = record { few = omega (arith, p.whole); price = p.kept }

-- so are lots of which some were outbid, in their order
within_out : (y : Lot) (t : Bool) → ltb 1 (count_of y) ≡ t → Within y (cond t (fewer y) no_lot)
within_out y true e = record { few = omega arith; price = λ z. refl }
within_out y false e = record { few = omega arith; price = λ z. absurd (let f : ⊥ = omega arith in f) }

leads_out : (y : Lot) (t : Bool) → ltb 1 (count_of y) ≡ t → count_of (cond t (fewer y) no_lot) ≤ 0 → (cond t (fewer y) no_lot).exit ≡ 0
leads_out y true e z = let k = ltb-true 1 (count_of y) e in absurd (let f : ⊥ = omega arith in f)
leads_out y false e z = refl

follows_out : (x y : Lot) → Follows x y → (t : Bool) → ltb 1 (count_of y) ≡ t → Follows x (cond t (fewer y) no_lot)
follows_out x y f true e =
    let k = ltb-true 1 (count_of y) e in
    record {
      unused = λ z. absurd (let f : ⊥ = omega arith in f);
      after = λ z. f.after (omega arith);
      rises = λ z. f.rises (omega arith);
    }
follows_out x y f false e = no_lot_follows x

-- an unused lot follows any
follows_any : (x y : Lot) → Follows x y → count_of y ≤ 0 → (w : Lot) → Follows w y
follows_any x y f h w = record {
  unused = f.unused;
  after = λ z. absurd (let f : ⊥ = omega arith in f);
  rises = λ z. absurd (let f : ⊥ = omega arith in f);
}

module _ (l : Lots) where
  within_by : (i : ℕ) → Last l i → AllWithin l l → AllWithin l (put l i (outbid_lot (lot_at l i)))
  within_by i (last0 f g h) r =
      record { one = within_out l.one (ltb 1 (count_of l.one)) refl; two = r.two; three = r.three; four = r.four }
  within_by i (last1 f g h) r =
      record { one = r.one; two = within_out l.two (ltb 1 (count_of l.two)) refl; three = r.three; four = r.four }
  within_by i (last2 g h) r =
      record { one = r.one; two = r.two; three = within_out l.three (ltb 1 (count_of l.three)) refl; four = r.four }
  within_by i (last3 h) r =
      record { one = r.one; two = r.two; three = r.three; four = within_out l.four (ltb 1 (count_of l.four)) refl }

  pub outbid_within : AllWithin l (outbid_last l)
  outbid_within = within_by (last_used l) (last_at l) (within_refl l)

  module _ (O : Ordered l) where
    ordered_by : (i : ℕ) → Last l i → Ordered (put l i (outbid_lot (lot_at l i)))
    ordered_by i (last0 f g h) = record {
      leads = leads_out l.one (ltb 1 (count_of l.one)) refl;
      second = follows_any _ _ O.second f _;
      third = O.third;
      fourth = O.fourth;
    }
    ordered_by i (last1 f g h) = record {
      leads = O.leads;
      second = follows_out l.one l.two O.second (ltb 1 (count_of l.two)) refl;
      third = follows_any _ _ O.third g _;
      fourth = O.fourth;
    }
    ordered_by i (last2 g h) = record {
      leads = O.leads;
      second = O.second;
      third = follows_out l.two l.three O.third (ltb 1 (count_of l.three)) refl;
      fourth = follows_any _ _ O.fourth h _;
    }
    ordered_by i (last3 h) = record {
      leads = O.leads;
      second = O.second;
      third = O.third;
      fourth = follows_out l.three l.four O.fourth (ltb 1 (count_of l.four)) refl;
    }

    pub outbid_ordered : Ordered (outbid_last l)
    outbid_ordered = ordered_by (last_used l) (last_at l)

-- lots within others have prices in the range that theirs are in
pub within_exits : (p q : ℕ) (c r : Lots) → ExitsFit p q c → AllWithin c r → Ordered r → ExitsFit p q r
within_exits p q c r E W O = record {
  order = O;
  one = part W.one E.one;
  two = part W.two E.two;
  three = part W.three E.three;
  four = part W.four E.four;
}
  where
    part : {x y : Lot} → Within x y → ExitFits p q x → ExitFits p q y
    part w e z = let k = e (omega (arith, w.few)) in (omega (arith, w.price z, k), omega (arith, w.price z, k))

-- ---- the first used lot has the lowest price, the last the highest

-- "Prices strictly rise": a used lot's price is above those of the lots before it
module _ (c : Lots) (O : Ordered c) where
  two_up : 0 < count_of c.two → c.one.exit ≤ c.two.exit
  two_up z = let r = O.second.rises z in omega arith

  three_up : 0 < count_of c.three → (c.two.exit ≤ c.three.exit) × (c.one.exit ≤ c.three.exit)
  three_up z = let r = O.third.rises z in let q = two_up (O.third.after z) in (omega arith, omega arith)

  four_up : 0 < count_of c.four → (c.three.exit ≤ c.four.exit) × ((c.two.exit ≤ c.four.exit) × (c.one.exit ≤ c.four.exit))
  four_up z = let r = O.fourth.rises z in let q = three_up (O.fourth.after z) in (omega arith, (omega arith, omega arith))

  abbrev Highest : ℕ → Type 0
  Highest x = (j : ℕ) → j < 4 → 0 < count_of (lot_at c j) → (lot_at c j).exit ≤ x

  highest_by : (i : ℕ) → Last c i → Highest (lot_at c i).exit
  highest_by i v zero h z = go i v z
    where
      go : (i : ℕ) → Last c i → 0 < count_of c.one → c.one.exit ≤ (lot_at c i).exit
      go i (last0 f g h) z = omega arith
      go i (last1 f g h) z = two_up f
      go i (last2 g h) z = (three_up g).1
      go i (last3 h) z = (four_up h).1.1
  highest_by i v (suc zero) h z = go i v z
    where
      go : (i : ℕ) → Last c i → 0 < count_of c.two → c.two.exit ≤ (lot_at c i).exit
      go i (last0 f g h) z = omega arith
      go i (last1 f g h) z = omega arith
      go i (last2 g h) z = (three_up g).0
      go i (last3 h) z = (four_up h).1.0
  highest_by i v (suc (suc zero)) h z = go i v z
    where
      go : (i : ℕ) → Last c i → 0 < count_of c.three → c.three.exit ≤ (lot_at c i).exit
      go i (last0 f g h) z = omega arith
      go i (last1 f g h) z = omega arith
      go i (last2 g h) z = omega arith
      go i (last3 h) z = (four_up h).0
  highest_by i v (suc (suc (suc zero))) h z = go i v z
    where
      go : (i : ℕ) → Last c i → 0 < count_of c.four → c.four.exit ≤ (lot_at c i).exit
      go i (last0 f g h) z = omega arith
      go i (last1 f g h) z = omega arith
      go i (last2 g h) z = omega arith
      go i (last3 h) z = omega arith
  highest_by i v (suc (suc (suc (suc j)))) h z = absurd (let f : ⊥ = omega arith in f)

  -- no used lot has a higher price than the last one
  pub last_highest : (j : ℕ) → j < 4 → 0 < count_of (lot_at c j) → (lot_at c j).exit ≤ highest c
  last_highest = highest_by (last_used c) (last_at c)

  -- nor a lower one than the first, also of what is left of a card's lots
  module _ (l r : Lots) (B : Beginning c l r) where
    lowest_by : (i : ℕ) → First l i → (j : ℕ) → j < 4 → 0 < count_of (lot_at l j) → (lot_at l i).exit ≤ (lot_at l j).exit
    lowest_by i v zero h z = go i v z
      where
        go : (i : ℕ) → First l i → 0 < count_of l.one → (lot_at l i).exit ≤ l.one.exit
        go i (at0 h) z = omega arith
        go i (at1 g h) z = omega arith
        go i (at2 f g h) z = omega arith
        go i (at3 f g h) z = omega arith
    lowest_by i v (suc zero) h z =
        let u = two_up (omega (arith, B.second.whole)) in go i v z u
      where
        go : (i : ℕ) → First l i → 0 < count_of l.two → c.one.exit ≤ c.two.exit → (lot_at l i).exit ≤ l.two.exit
        go i (at0 h) z u = omega (arith, B.first.price, B.second.price)
        go i (at1 g h) z u = omega arith
        go i (at2 f g h) z u = omega arith
        go i (at3 f g h) z u = omega arith
    lowest_by i v (suc (suc zero)) h z =
        let u = three_up (omega (arith, B.third.whole)) in go i v z u.0 u.1
      where
        go : (i : ℕ) → First l i → 0 < count_of l.three → c.two.exit ≤ c.three.exit → c.one.exit ≤ c.three.exit
            → (lot_at l i).exit ≤ l.three.exit
        go i (at0 h) z t u = omega (arith, B.first.price, B.third.price)
        go i (at1 g h) z t u = omega (arith, B.second.price, B.third.price)
        go i (at2 f g h) z t u = omega arith
        go i (at3 f g h) z t u = omega arith
    lowest_by i v (suc (suc (suc zero))) h z =
        let u = four_up (omega (arith, B.fourth.whole)) in go i v z u.0 u.1.0 u.1.1
      where
        go : (i : ℕ) → First l i → 0 < count_of l.four → c.three.exit ≤ c.four.exit → c.two.exit ≤ c.four.exit
            → c.one.exit ≤ c.four.exit → (lot_at l i).exit ≤ l.four.exit
        go i (at0 h) z s t u = omega (arith, B.first.price, B.fourth.price)
        go i (at1 g h) z s t u = omega (arith, B.second.price, B.fourth.price)
        go i (at2 f g h) z s t u = omega (arith, B.third.price, B.fourth.price)
        go i (at3 f g h) z s t u = omega arith
    lowest_by i v (suc (suc (suc (suc j)))) h z = absurd (let f : ⊥ = omega arith in f)

    pub first_lowest : (j : ℕ) → j < 4 → 0 < count_of (lot_at l j) → lowest l ≤ (lot_at l j).exit
    first_lowest = lowest_by (first_used l) (first_at l)
