-- The places that the accepted bids of a standing auction make: step 1. Assumes nothing.
use mathlib.Core.Path.{◌≡◌, refl, sym, ◌∙◌, ap, ap₂, subst}
use mathlib.Core.Bool.{Bool, true, false, ◌&&◌, cond}
use Prim.Native.Nat.{ℕ, ◌+◌, ◌*◌, ◌-◌, ◌/◌, ◌%◌, ◌≤◌, ◌<◌}
use native.Mathlib.Omega.{arith}
use borrow.Author.Tests.{eqb-true, ltb-true, ltb-false, le-ltb}
use lib.ListN.{length, get_or, get_or-eq_default}
use lib.Dec.{eqb, ltb}
use Rattle.rules.specs.declared.Line.{Line}
use Rattle.rules.specs.declared.Record.{Record}
use Rattle.rules.specs.declared.Place.{Place}
use Rattle.rules.specs.declared.Auction.{Auction}
use Rattle.rules.specs.Settings.{setup, target_of, cap_of}
use Rattle.rules.specs.Lots.{no_lots, total, lots_zero}
use Rattle.rules.specs.Card.{no_line, line_zero}
use Rattle.rules.specs.Held.{going_in, denied_in, retained_in, held_in, held, ticked, free_of}
use Rattle.rules.specs.Bid.{bid_in, withdrawn_in, reduction, increase, record_of, price_at, before_at, on_product, judged, has_filed, slot_of, default_line, bid_on}
use Rattle.rules.specs.Accept.{nowhere, place_at, accepted, accepted_all, held_of, kept_of, left_of, leaving_of, moving_of, rise_of, column, row_of}
use Rattle.rules.specs.Legal.{kept_on, record_zero, zero_from}
use Rattle.rules.proofs.Sums.{sum_ext, sum_six, sum_zero, and_left, and_right}
use Rattle.rules.proofs.Lists.{all_take, list_at, list_long}
use Rattle.rules.proofs.LotLaws.{one_total, zero_none}
use Rattle.rules.proofs.Signed.{above_true}
use Rattle.rules.specs.Stands.{Stands, Accepted}
use Rattle.rules.proofs.Places.{going_of, denied_of, retained_of}
use Rattle.rules.specs.Keep.{Keepable}

-- every bid of the round, a card's or the default, is one that 8 to 13 accept
abbrev pub AllAccepted : Auction → Type 0
AllAccepted a =
    (b : ℕ) → b < a.terms.bidders
    → Accepted a.terms.products (ticked a) (cap_of (setup a)) (price_at a) (before_at a) (record_of a b) (bid_on a b) (free_of a b)

-- a place as a record and a bid make it
pub record Made (r : Record) (l : Line) (x : Place) : Type 0 where
  pub going : going_of x ≡ bid_in l
  pub denied : denied_of x ≡ denied_in r
  pub retained : retained_of x ≡ retained_in r
  pub lots : x.holds.retained ≡ r.retained
  pub leaving : leaving_of x ≡ withdrawn_in l
  pub leaves : x.leaving ≡ l.withdrawn
  pub moving : moving_of x ≡ going_in r - bid_in l - withdrawn_in l
  pub rise : rise_of x ≡ bid_in l - going_in r

-- a place past the bidders or products in use
pub record Bare (x : Place) : Type 0 where
  pub going : going_of x ≡ 0
  pub denied : denied_of x ≡ 0
  pub retained : retained_of x ≡ 0
  pub lots : x.holds.retained ≡ no_lots
  pub leaving : leaving_of x ≡ 0
  pub moving : moving_of x ≡ 0
  pub rise : rise_of x ≡ 0

-- and a record
pub record NoRecord (r : Record) : Type 0 where
  pub going : going_in r ≡ 0
  pub denied : denied_in r ≡ 0
  pub retained : retained_in r ≡ 0
  pub lots : r.retained ≡ no_lots

-- a record that is 0, as facts
pub zero_record : (r : Record) → record_zero r ≡ true → NoRecord r
zero_record r e =
    let f = and_right (eqb (going_in r) 0) _ e in
    let g = and_right (eqb (denied_in r) 0) _ f in record {
      going = eqb-true _ _ (and_left (eqb (going_in r) 0) _ e);
      denied = eqb-true _ _ (and_left (eqb (denied_in r) 0) _ f);
      retained = ap total (zero_none r.retained g);
      lots = zero_none r.retained g;
    }

-- a bid of nothing
record NoBid (l : Line) : Type 0 where
  bid : bid_in l ≡ 0
  withdrawn : withdrawn_in l ≡ 0

zero_line : (l : Line) → line_zero l ≡ true → NoBid l
zero_line l e = record {
  bid = eqb-true _ _ (and_left (eqb (bid_in l) 0) _ e);
  withdrawn = ap total (zero_none l.withdrawn (and_left (lots_zero l.withdrawn) _ (and_right (eqb (bid_in l) 0) _ e)));
}

default_none : (t : Bool) (q : ℕ) (r : Record) → going_in r ≡ 0 → NoBid (default_line t q r)
default_none true q r e = record { bid = refl; withdrawn = one_total (going_in r) q ∙ e }
default_none false q r e = record { bid = e; withdrawn = refl }

module _ (a : Auction) where
  abbrev m : ℕ
  m = a.terms.products

  abbrev n : ℕ
  n = a.terms.bidders

  abbrev at : ℕ → ℕ → Place
  at b p = place_at (accepted_all a) (b * 8 + p)

  abbrev by_number : ℕ → Place
  by_number k = accepted (record_of a (k / 8) (k % 8)) (bid_on a (k / 8) (k % 8))

  -- bidder b on product p stands at b * 8 + p
  at_is : (b p : ℕ) → b < 32 → p < 8 → at b p ≡ accepted (record_of a b p) (bid_on a b p)
  at_is b p hb hp =
      list_at by_number nowhere 256 (b * 8 + p) (omega arith)
      ∙ ap₂ (λ b p. accepted (record_of a b p) (bid_on a b p)) (omega arith) (omega arith)

  -- the place of bidder b on product p
  pub made : (b p : ℕ) → b < 32 → p < 8 → Made (record_of a b p) (bid_on a b p) (place_at (accepted_all a) (b * 8 + p))
  made b p hb hp =
      subst (Made (record_of a b p) (bid_on a b p)) (sym (at_is b p hb hp))
      (record { going = refl; denied = refl; retained = refl; lots = refl; leaving = refl; leaves = refl; moving = refl; rise = refl })

  made_long : length (accepted_all a) ≡ 256
  made_long = list_long by_number 256

  -- no increase passes what is bid
  made_rises : (k : ℕ) → rise_of (place_at (accepted_all a) k) ≤ going_of (place_at (accepted_all a) k)
  made_rises k = by (ltb k 256) refl
    where
      by : (t : Bool) → ltb k 256 ≡ t → rise_of (place_at (accepted_all a) k) ≤ going_of (place_at (accepted_all a) k)
      by true e = rw (list_at by_number nowhere 256 k (ltb-true k 256 e)) (omega arith)
      by false e =
          let h = ltb-false k 256 e in
          let z : place_at (accepted_all a) k ≡ nowhere = get_or-eq_default (accepted_all a) nowhere {n = k} (omega (arith, made_long)) in
          rw z (omega arith)

  module _ (S : Stands a) where
    -- past the bidders and products in use nothing is held and nothing is bid
    no_record : (b p : ℕ) → b < 32 → p < 8 → (b < n → m ≤ p) → NoRecord (record_of a b p)
    no_record b p hb hp out = zero_record _ (by (ltb b n) refl)
      where
        by : (t : Bool) → ltb b n ≡ t → record_zero (record_of a b p) ≡ true
        by true e = let h = out (ltb-true b n e) in S.no_product (b * 8 + p) (omega arith) (omega arith)
        by false e = let h = ltb-false b n e in S.no_bidder (b * 8 + p) (omega arith) (omega arith)

    no_bid : (b p : ℕ) → b < 32 → p < 8 → (b < n → m ≤ p) → NoBid (bid_on a b p)
    no_bid b p hb hp out = by (has_filed a b) (S.slots b hb)
      where
        by : (t : Bool) → cond t (ltb b n && (eqb (judged a b (slot_of a b)) 0 && zero_from (slot_of a b) m)) (zero_from (slot_of a b) 0) ≡ true
            → NoBid (cond t (get_or a.cards.lines (b * 8 + p) no_line) (default_line (ticked a p) (before_at a p) (record_of a b p)))
        by true e =
            let h = out (ltb-true b n (and_left (ltb b n) _ e)) in
            let z = and_right (eqb (judged a b (slot_of a b)) 0) _ (and_right (ltb b n) _ e) in
            let w = all_take (λ p. cond (ltb p m) true (line_zero (on_product (slot_of a b) p))) 8 z p hp in
            let v : line_zero (on_product (slot_of a b) p) ≡ true = rw (le-ltb p m h) at w in
            zero_line _ (rw (list_at (λ p. get_or a.cards.lines (b * 8 + p) no_line) no_line 8 p hp) at v)
        by false e = default_none (ticked a p) (before_at a p) (record_of a b p) (no_record b p hb hp out).going

    -- so that every place there is bare
    pub made_bare : (b p : ℕ) → b < 32 → p < 8 → (b < a.terms.bidders → a.terms.products ≤ p)
        → Bare (place_at (accepted_all a) (b * 8 + p))
    made_bare b p hb hp out =
        let M = made b p hb hp in
        let N = no_record b p hb hp out in
        let B = no_bid b p hb hp out in
        record {
          going = omega arith;
          denied = omega arith;
          retained = omega arith;
          lots = M.lots ∙ N.lots;
          leaving = omega arith;
          moving = omega arith;
          rise = omega arith;
        }

    -- nothing is kept where the product ticked
    pub none_kept : (p : ℕ) → p < a.terms.products → ticked a p ≡ true → kept_on a p ≡ 0
    none_kept p hp t = by (ltb 0 (kept_on a p)) refl
      where
        by : (s : Bool) → ltb 0 (kept_on a p) ≡ s → kept_on a p ≡ 0
        by true e =
            let x = S.kept p hp (ltb-true 0 (kept_on a p) e) in
            let y = above_true (held a.records n p) (target_of (setup a) p) t in
            absurd (let z : ⊥ = omega (arith, x) in z)
        by false e = let x = ltb-false 0 (kept_on a p) e in omega arith

    module _ (A : AllAccepted a) where
      -- what is held and what is left to keep are what was held and what is more
      balance : (b p : ℕ) → b < n → p < m → held_of (at b p) + left_of (at b p) ≡ held_in (record_of a b p) + rise_of (at b p)
      balance b p hb hp = omega (arith, made b p (omega (arith, S.limits.bidders)) (omega (arith, S.limits.products)), (A b hb).withdrawn p hp)

      column_balance : (p : ℕ) → p < m
          → column held_of (accepted_all a) p n + column left_of (accepted_all a) p n ≡ held a.records n p + column rise_of (accepted_all a) p n
      column_balance p hp =
          let s = sum_six (λ b. held_of (at b p)) (λ b. left_of (at b p)) (λ b. 0)
          (λ b. held_in (record_of a b p)) (λ b. rise_of (at b p)) (λ b. 0) n
          (λ b hb. omega (arith, balance b p hb hp)) in
          omega arith

      -- a bidder's switches are at most its increases
      row_owed : (b : ℕ) → b < n → row_of moving_of (accepted_all a) b m ≤ row_of rise_of (accepted_all a) b m
      row_owed b hb =
          let place : (p : ℕ) → p < m → Made (record_of a b p) (bid_on a b p) (at b p) = λ p hp.
          made b p (omega (arith, S.limits.bidders)) (omega (arith, S.limits.products)) in
          let s = sum_six (λ p. moving_of (at b p)) (λ p. withdrawn_in (bid_on a b p)) (λ p. 0)
          (λ p. reduction (record_of a b p) (bid_on a b p)) (λ p. 0) (λ p. 0) m
          (λ p hp. omega (arith, place p hp, (A b hb).withdrawn p hp)) in
          let r = sum_ext (λ p. rise_of (at b p)) (λ p. increase (record_of a b p) (bid_on a b p)) m (λ p hp. (place p hp).rise) in
          omega (arith, sum_zero m, (A b hb).total)

      -- nothing is kept yet on a product that ticked
      pub made_none : (p : ℕ) → p < a.terms.products → ticked a p ≡ true → column kept_of (accepted_all a) p a.terms.bidders ≡ 0
      made_none p hp t =
          sum_ext _ _ n (λ b hb. omega (arith, made b p (omega (arith, S.limits.bidders)) (omega (arith, S.limits.products))))
          ∙ none_kept p hp t

      -- step 2 can begin
      pub keepable : Keepable a.terms.products a.terms.bidders (target_of (setup a)) (ticked a) (accepted_all a)
      keepable = record {
        long = omega (arith, S.limits.bidders, made_long);
        full = λ p hp t. let x = above_true (held a.records n p) (target_of (setup a) p) t in omega (arith, column_balance p hp);
        owed = row_owed;
        rises = made_rises;
        settled = λ p hp t h. absurd (let z : ⊥ = omega (arith, made_none p hp t) in z);
      }
