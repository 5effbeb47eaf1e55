-- Demand 3 "If the auction closes": targets and closing bids. Assumes nothing.
use mathlib.Core.Path.{◌≡◌, refl, sym, ◌∙◌, ap, subst}
use mathlib.Core.Bool.{Bool, true, false, cond}
use mathlib.Core.Logic.{◌⊎◌, inl, inr}
use mathlib.Core.List.{List, [], ◌∷◌, ◌++◌}
use Prim.Native.Nat.{ℕ, ◌+◌, ◌*◌, ◌≤◌, ◌<◌}
use native.Mathlib.Omega.{arith}
use borrow.Author.Tests.{eqb-true, eq-eqb}
use lib.ListN.{length, get_or}
use lib.Dec.{eqb}
use Rattle.rules.specs.Price.{Override}
use Rattle.rules.specs.declared.Settings.{Settings}
use Rattle.rules.specs.declared.Terms.{Terms}
use Rattle.rules.specs.declared.Auction.{Auction}
use Rattle.rules.specs.Count.{sum_up_to}
use Rattle.rules.specs.Units.{tranches, amount_of, price_of, quote}
use Rattle.rules.specs.Answers.{bids_open, closed, stopped}
use Rattle.rules.specs.Settings.{setup, terms_of, setup_of, target_of}
use Rattle.rules.specs.Held.{held_in, record_at, held}
use Rattle.rules.specs.Bid.{bid_in, record_of, bid_on}
use Rattle.rules.specs.Report.{paid_on, result_of}
use Rattle.rules.specs.Cutback.{cut_back}
use Rattle.rules.specs.Layout.{loaded}
use Rattle.rules.specs.Legal.{is_open}
use Rattle.rules.specs.Calls.{opened, open_number, card_number, with_card, calculate_call, closed_number, result_number, result_call}
use Rattle.rules.proofs.Sums.{sum_ext}
use Rattle.rules.proofs.Lists.{clash, list_at}
use Rattle.rules.proofs.Storing.{loaded_long}
use Rattle.laws.proofs.Bids.{bids_accepted}
use Rattle.laws.proofs.Calling.{granted}
use Rattle.laws.proofs.Round.{round_closes}
use Rattle.laws.proofs.Cutback.{cut_only}
use Rattle.laws.proofs.Plain.{plain_leaves}
use Rattle.rules.specs.Stands.{Stands, Long}
use Rattle.laws.specs.OneCall.{StandsIn}
use Rattle.laws.proofs.OneCall.{stood, of_standing, open_stands_lem, open_loaded, open_standing, file_refused, calculate_accepts, calculate_refused, cutback_accepts, cutback_refused}
use Rattle.rules.specs.Uses.{Call, opens, files, counts, calculates, calculates_plain, cuts, reports, results, reads, writes, suggests, after}
use Rattle.promises.specs.Runs.{run, opened_by, filled_part, Round, Cutback, cutbacks, settings_after}
use Rattle.promises.specs.Awards.{Closed, award_on, paid_for, PaidHighest}
use Rattle.promises.proofs.Paid.{paid_most, paid_some, paid_none}
use Rattle.promises.proofs.Offers.{closed_within}
use Rattle.promises.proofs.Steps.{Step, same, card, round, cut, step, after_stands, run_keeps, parts_later, opened_stands, opened_settings, opened_terms, in_use}
use Rattle.promises.specs.Demands.{ClosingBid}

-- ---- the result of a closed state

amount_is : (t : Bool) (x : ℕ) → amount_of (cond t (price_of 0 x) (price_of 1 x)) ≡ x
amount_is true x = refl
amount_is false x = refl

module _ (s : List ℕ) (S : StandsIn s) (c : Closed s) where
  -- a closed state that stands gives its result
  pub closed_gives : result_number s ≡ 0
  closed_gives = of_standing s S 16 closed_number ∙ rw (eq-eqb (loaded s).phase closed c)

  result_is : result_call s ≡ result_of (loaded s)
  unfolding result_call
  result_is = rw closed_gives

  -- the award of a bidder on a product is what its record holds
  pub award_is : (b p : ℕ) → b < (loaded s).terms.bidders → p < (loaded s).terms.products
      → award_on s b p ≡ held_in (record_of (loaded s) b p)
  unfolding result_of
  award_is b p hb hp =
      let L = (stood s S).limits in
      ap (λ r. (get_or r.tranches (b * 8 + p) (tranches 0)).0) result_is
      ∙ ap (λ t. t.0) (list_at (λ k. tranches (held_in (record_at (loaded s).records k))) (tranches 0) 256 (b * 8 + p) (omega arith))

  -- the price of a product is the highest at which a tranche of it is held
  pub paid_is : (p : ℕ) → p < (loaded s).terms.products → paid_for s p ≡ paid_on (loaded s) p
  unfolding result_of
  paid_is p hp =
      let L = (stood s S).limits in
      ap (λ r. amount_of (get_or r.prices p (quote 0 0)).price) result_is
      ∙ ap (λ q. amount_of q.price) (list_at (λ p. quote (loaded s).terms.unit (paid_on (loaded s) p)) (quote 0 0) 8 p (omega arith))
      ∙ amount_is (eqb (loaded s).terms.unit 0) (paid_on (loaded s) p)

  -- which looks at every lot: no held tranche has a higher price, and one has that price
  pub paid_highest : (p : ℕ) → p < (loaded s).terms.products → PaidHighest s p
  paid_highest p hp =
      let e = paid_is p hp in
      let T = stood s S in
      record {
        most = rw e (paid_most (loaded s) T p hp);
        some = rw e (paid_some (loaded s) T p hp);
        none = λ h. e ∙ paid_none (loaded s) T p hp h;
      }

  awards_are : (p : ℕ) → p < (loaded s).terms.products
      → sum_up_to (λ b. award_on s b p) (loaded s).terms.bidders ≡ held (loaded s).records (loaded s).terms.bidders p
  awards_are p hp = sum_ext _ _ (loaded s).terms.bidders (λ b hb. award_is b p hb hp)

  -- no award passes a target
  awards_within : (p : ℕ) → p < (loaded s).terms.products
      → sum_up_to (λ b. award_on s b p) (loaded s).terms.bidders ≤ target_of (setup (loaded s)) p
  awards_within p hp = omega (arith, awards_are p hp, closed_within (loaded s) (stood s S) c p hp)

  -- a product that is filled is awarded its target
  awards_filled : (p : ℕ) → p < (loaded s).terms.products → target_of (setup (loaded s)) p ≤ filled_part (loaded s) p
      → sum_up_to (λ b. award_on s b p) (loaded s).terms.bidders ≡ target_of (setup (loaded s)) p
  awards_filled p hp f = omega (arith, awards_are p hp, awards_within p hp)

-- ---- where bids are not open, no call changes the state

module _ (s : List ℕ) (S : StandsIn s) (o : is_open (loaded s) ≡ false) where
  ended_calculate : (draw : List ℕ) (os : List Override) → (calculate_call s draw os).bytes ≡ s
  ended_calculate draw os = calculate_refused s draw os (λ n. clash (calculate_accepts s S draw os n).0 o)

  ended_after : (c : Call) → after s c ≡ s
  ended_after (opens x) = (open_standing s x S).1
  ended_after (files c) =
      file_refused s c (λ n. clash (granted (is_open (loaded s)) _ 3 (omega arith) (sym (of_standing s S 3 (card_number c)) ∙ n)).0 o)
  ended_after counts = refl
  ended_after (calculates draw os) = ended_calculate draw os
  ended_after (calculates_plain draw os order) = plain_leaves s draw os order (λ t. t ≡ s) refl (ended_calculate draw os)
  ended_after (cuts targets caps) = cutback_refused s targets caps (λ n. clash (cutback_accepts s S targets caps n).0 o)
  ended_after (reports b) = refl
  ended_after results = refl
  ended_after (reads c n) = refl
  ended_after (writes room n b r ls) = refl
  ended_after (suggests bid ratio) = refl

  pub ended_stays : (cs : List Call) → run s cs ≡ s
  ended_stays [] = refl
  ended_stays (c ∷ cs) = ap (λ t. run t cs) (ended_after c) ∙ ended_stays cs

-- ---- the round that closed

-- from a to z, which is closed, by the rounds rs: one, and no bidder holds less than it bid in it
record ClosingRound (a z : Auction) (rs : List Round) : Type 0 where
  pub draw : List ℕ
  pub overrides : List Override
  pub accepted : rs ≡ record { auction = a; draw = draw; overrides = overrides } ∷ []
  pub asked : (b : ℕ) → b < a.terms.bidders
      → sum_up_to (λ p. bid_in (bid_on a b p)) a.terms.products ≤ sum_up_to (λ p. held_in (record_of z b p)) a.terms.products

-- nothing but a round closes: a cutback leaves bids open, or stops
closing_round : {a z : Auction} {rs : List Round} {ks : List Cutback} → Stands a → Long a → Step a z rs ks → is_open a ≡ true → z.phase ≡ closed
    → ClosingRound a z rs
unfolding with_card
closing_round {a} S L same o c = let x = eqb-true a.phase 1 o in absurd (let z : ⊥ = omega arith in z)
closing_round {a} S L (card b ls) o c = let x = eqb-true a.phase 1 o in absurd (let z : ⊥ = omega arith in z)
closing_round {a} S L (round draw os o D O) _ c = record {
  draw = draw;
  overrides = os;
  accepted = refl;
  asked = (round_closes a draw os S L o D O (bids_accepted a S o) c).asked;
}
closing_round {a} S L (cut targets caps o m) _ c = absurd (by (cut_only a targets caps S o m).phase)
  where
    by : ((cut_back a targets caps).phase ≡ bids_open) ⊎ ((cut_back a targets caps).phase ≡ stopped) → ⊥
    by (inl h) = omega arith
    by (inr h) = omega arith

-- products and bidders in use by another name
closing_as : (s : List ℕ) (t u : Terms) (cs : List Call) → u.bidders ≡ t.bidders → u.products ≡ t.products → ClosingBid s t cs → ClosingBid s u cs
closing_as s t u cs hb hp C = record {
  before = C.before;
  call = C.call;
  rest = C.rest;
  split = C.split;
  bidding = C.bidding;
  draw = C.draw;
  overrides = C.overrides;
  accepted = C.accepted;
  closing = C.closing;
  asked = λ b h.
      subst (λ m. sum_up_to (λ p. bid_in (bid_on (loaded (run s C.before)) b p)) m ≤ sum_up_to (λ p. award_on (run s cs) b p) m) (sym hp)
      (C.asked b (omega arith));
}

module _ (s : List ℕ) (S : StandsIn s) (o : is_open (loaded s) ≡ true) where
  -- the call that closed, with those that follow it
  closing_now : (c : Call) (cs : List Call) → is_open (loaded (after s c)) ≡ false → Closed (run (after s c) cs)
      → ClosingBid s (loaded s).terms (c ∷ cs)
  closing_now c cs e z =
      let q = after s c in
      let Q = after_stands s S c in
      let u = ended_stays q Q e cs in
      let w : Closed q = rw u at z in
      let K = closing_round (stood s S) (loaded_long s) (step s S c) o w in
      let t = (run_keeps s S (c ∷ [])).terms in
      let m = ap (λ t. t.products) t in
      let b = ap (λ t. t.bidders) t in
      record {
        before = [];
        call = c;
        rest = cs;
        split = refl;
        bidding = o;
        draw = K.draw;
        overrides = K.overrides;
        accepted = K.accepted;
        closing = w;
        asked = λ i h.
            let x = sum_ext (λ p. award_on q i p) (λ p. held_in (record_of (loaded q) i p)) (loaded s).terms.products
            (λ p hp. award_is q Q w i p (omega arith) (omega arith)) in
            subst (λ y. sum_up_to (λ p. bid_in (bid_on (loaded s) i p)) (loaded s).terms.products ≤ sum_up_to (λ p. award_on y i p) (loaded s).terms.products)
            (sym u) (omega (arith, K.asked i h));
      }

-- one call more at the beginning
closing_later : (s : List ℕ) (c : Call) (t : Terms) (cs : List Call) → ClosingBid (after s c) t cs → ClosingBid s t (c ∷ cs)
closing_later s c t cs C = record {
  before = c ∷ C.before;
  call = C.call;
  rest = C.rest;
  split = ap (λ l. c ∷ l) C.split;
  bidding = C.bidding;
  draw = C.draw;
  overrides = C.overrides;
  accepted = C.accepted;
  closing = C.closing;
  asked = C.asked;
}

-- from any open standing state that ends closed there is such a calculation
closes_by : (s : List ℕ) → StandsIn s → is_open (loaded s) ≡ true → (cs : List Call) → Closed (run s cs) → ClosingBid s (loaded s).terms cs
closes_by s S o [] z =
    let x = eqb-true (loaded s).phase 1 o in
    absurd (let w : ⊥ = omega arith in w)
closes_by s S o (c ∷ cs) z = by (is_open (loaded (after s c))) refl (λ o. closes_by (after s c) (after_stands s S c) o cs)
  where
    by : (t : Bool) → is_open (loaded (after s c)) ≡ t
        → (is_open (loaded (after s c)) ≡ true → Closed (run (after s c) cs) → ClosingBid (after s c) (loaded (after s c)).terms cs)
        → ClosingBid s (loaded s).terms (c ∷ cs)
    by true e f =
        let K = run_keeps s S (c ∷ []) in
        closing_later s c (loaded s).terms cs
        (closing_as (after s c) (loaded (after s c)).terms (loaded s).terms cs (sym (ap (λ t. t.bidders) K.terms)) (sym (ap (λ t. t.products) K.terms)) (f e z))
    by false e f = closing_now s S o c cs e z

-- ---- from an opening

module _ (s : List ℕ) (x : Settings) (new : open_number s x ≡ 0) (e : length x.eligibility ≡ 32) (r : length x.row ≡ 8)
    (cs : List Call) where
  -- "no award passes a target": the target as revised
  pub no_award_over_target : Closed (run (opened_by s x) cs) → (p : ℕ) → p < (terms_of x).products
      → sum_up_to (λ b. award_on (run (opened_by s x) cs) b p) (terms_of x).bidders ≤ target_of (settings_after s x cs) p
  no_award_over_target c p h =
      let t = opened_settings s x new e r cs in
      let n = ap (λ t. t.bidders) (opened_terms s x new e r cs) in
      let g = ap (λ t. target_of t p) t in
      let w = rw n at (awards_within _ (opened_stands s x new e r cs) c p (in_use s x new e r cs p h)) in
      omega arith

  -- "a product once filled is awarded exactly its target": filled in any state since the last cutback
  pub once_filled : (ds : List Call) → cutbacks (run (opened_by s x) cs) ds ≡ [] → Closed (run (opened_by s x) (cs ++ ds))
      → (p : ℕ) → p < (terms_of x).products
      → filled_part (loaded (run (opened_by s x) cs)) p ≡ target_of (settings_after s x cs) p
      → sum_up_to (λ b. award_on (run (opened_by s x) (cs ++ ds)) b p) (terms_of x).bidders ≡ target_of (settings_after s x cs) p
  once_filled ds u c p h f =
      let A = parts_later (opened_by s x) (open_stands_lem s x new e r) cs ds u in
      let t = A.settings ∙ opened_settings s x new e r cs in
      let n = ap (λ t. t.terms.bidders) A.settings ∙ ap (λ t. t.bidders) (opened_terms s x new e r cs) in
      let g = ap (λ t. target_of t p) t in
      let w = rw n at (awards_filled _ (opened_stands s x new e r (cs ++ ds)) c p (in_use s x new e r (cs ++ ds) p h)
      (omega (arith, A.filled p (in_use s x new e r cs p h)))) in
      omega arith

  -- "each bidder wins in total at least what its closing bid asked"
  pub closing_bid : Closed (run (opened_by s x) cs) → ClosingBid (opened_by s x) (terms_of x) cs
  unfolding opened setup_of
  closing_bid c =
      let l = open_loaded s x new e r in
      subst (λ t. ClosingBid (opened_by s x) t cs) (ap (λ a. a.terms) l)
      (closes_by (opened_by s x) (open_stands_lem s x new e r) (ap is_open l) cs c)
