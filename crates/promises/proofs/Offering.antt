-- Demand 3: "every awarded tranche had been offered by that bidder, by its card or under document 01's default or deeming rule, at no more
-- than the price it is paid". Assumes nothing.
use mathlib.Core.Path.{◌≡◌, refl, ◌∙◌, ap}
use mathlib.Core.List.{List, [], ◌∷◌, ◌++◌, append-nil, append_assoc}
use Prim.Native.Nat.{ℕ, ◌+◌, ◌≤◌, ◌<◌}
use native.Mathlib.Omega.{arith}
use lib.ListN.{length}
use Rattle.rules.specs.declared.Settings.{Settings}
use Rattle.rules.specs.declared.Setup.{Setup}
use Rattle.rules.specs.declared.Auction.{Auction}
use Rattle.rules.specs.Count.{sum_up_to}
use Rattle.rules.specs.Parts.{tranches_at}
use Rattle.rules.specs.Settings.{setup, terms_of, setup_of, initial_of}
use Rattle.rules.specs.Lots.{no_lots, total}
use Rattle.rules.specs.Held.{nothing, going_in, denied_in, retained_in, eligibility, place}
use Rattle.rules.specs.Bid.{bid_in, withdrawn_in as withdrawn_on, reduction, increase, record_of, bid_on}
use Rattle.rules.specs.Round.{calculated}
use Rattle.rules.specs.Cutback.{revised, cut_back}
use Rattle.rules.specs.Layout.{loaded}
use Rattle.rules.specs.Calls.{opened, open_number, with_card}
use Rattle.rules.specs.Stands.{Stands, Long}
use Rattle.rules.proofs.Sums.{sum_ext, sum_le, sum_six, sum_add, sum_zero}
use Rattle.rules.proofs.LotLaws.{within_refl}
use Rattle.rules.proofs.Storing.{loaded_long}
use Rattle.laws.proofs.Opening.{blank, opened_free}
use Rattle.laws.proofs.Bids.{bids_accepted}
use Rattle.laws.proofs.Round.{round_setup, round_eligibility}
use Rattle.laws.proofs.Cutback.{cut_only}
use Rattle.laws.specs.OneCall.{StandsIn}
use Rattle.laws.proofs.OneCall.{stood, open_stands_lem, open_loaded}
use Rattle.rules.specs.Uses.{Call, after}
use Rattle.promises.specs.Runs.{run, opened_by, Round, round_of, rounds, Cutback}
use Rattle.promises.specs.Offered.{OnOffer, no_offer, offering, offered_from, on_offer, in_rounds, given_up, withdrawn_in}
use Rattle.promises.specs.Awards.{Closed, award_on}
use Rattle.promises.specs.Demands.{AwardOffered, AwardedOnce}
use Rattle.promises.proofs.Steps.{Step, same, card, round, cut, step, after_stands, run_keeps, opened_stands, opened_settings, opened_terms, opened_keeps, in_use, bidding}
use Rattle.promises.proofs.Offers.{Backed, round_backed, round_retained, cut_backed, closed_free, going_paid, denied_paid, retained_offered}
use Rattle.promises.proofs.Closing.{award_is, paid_is}

-- ---- on one product

offered_on : (o : OnOffer) (rs qs : List Round) (b p : ℕ) → offered_from o (rs ++ qs) b p ≡ offered_from (offered_from o rs b p) qs b p
offered_on o [] qs b p = refl
offered_on o (r ∷ rs) qs b p = offered_on (offering r b p o) rs qs b p

-- of a bidder and a product in use
abbrev BackedBy : OnOffer → Auction → ℕ → ℕ → Type 0
BackedBy o a b p = b < a.terms.bidders → p < a.terms.products → Backed o a b p

step_backed : {a z : Auction} {rs : List Round} {ks : List Cutback} → Stands a → Long a → Step a z rs ks → (o : OnOffer) (b p : ℕ)
    → BackedBy o a b p → BackedBy (offered_from o rs b p) z b p
unfolding with_card revised
step_backed S L same o b p B = B
step_backed S L (card c ls) o b p B = λ hb hp. let K = B hb hp in record {
  going = K.going;
  denied = K.denied;
  lots = K.lots;
  own = K.own;
  price = K.price;
  before = K.before;
}
step_backed {a} S L (cut targets caps u m) o b p B = λ hb hp.
    let t = (cut_only a targets caps S u m).settings in
    let n = ap (λ t. t.terms.bidders) t in
    let k = ap (λ t. t.terms.products) t in
    cut_backed a targets caps S u m b p (omega arith) (omega arith) o (B (omega arith) (omega arith))
step_backed {a} S L (round draw os u D F) o b p B = λ hb hp.
    let t = round_setup a draw os S L u D F (bids_accepted a S u) in
    let n = ap (λ t. t.terms.bidders) t in
    let k = ap (λ t. t.terms.products) t in
    round_backed a draw os S L u D F (bids_accepted a S u) b p (omega arith) (omega arith) o (B (omega arith) (omega arith))

run_backed : (s : List ℕ) → StandsIn s → (cs : List Call) (o : OnOffer) (b p : ℕ) → BackedBy o (loaded s) b p
    → BackedBy (offered_from o (rounds s cs) b p) (loaded (run s cs)) b p
run_backed s S [] o b p B = B
run_backed s S (c ∷ cs) o b p B =
    rw (offered_on o (round_of s c) (rounds (after s c) cs) b p)
    (run_backed (after s c) (after_stands s S c) cs (offered_from o (round_of s c) b p) b p
    (step_backed (stood s S) (loaded_long s) (step s S c) o b p B))

-- before round 1 nothing is held
opened_backed : (t : Setup) (b p : ℕ) → Backed no_offer (opened t) b p
unfolding opened
opened_backed t b p =
    let e = blank nothing 256 (place b p) in
    let g = ap going_in e in
    let d = ap denied_in e in
    record {
      going = omega arith;
      denied = omega arith;
      lots = rw e (within_refl no_lots);
      own = omega arith;
      price = λ h. absurd (let z : ⊥ = omega arith in z);
      before = λ h. absurd (let z : ⊥ = omega arith in z);
    }

-- ---- over all products

rounds_on : (f : Round → ℕ) (rs qs : List Round) → in_rounds f (rs ++ qs) ≡ in_rounds f rs + in_rounds f qs
rounds_on f [] qs = omega arith
rounds_on f (r ∷ rs) qs = let e = rounds_on f rs qs in omega arith

-- what bidder b has and what it gave up are its initial eligibility; its retained withdrawals are of those withdrawn
record Once (past : List Round) (a : Auction) (b : ℕ) : Type 0 where
  whole : eligibility a b + in_rounds (given_up b) past ≡ initial_of (setup a) b
  retained : sum_up_to (λ p. retained_in (record_of a b p)) a.terms.products ≤ in_rounds (withdrawn_in b) past
  withdrawn : in_rounds (withdrawn_in b) past ≤ in_rounds (given_up b) past

step_once : {a z : Auction} {rs : List Round} {ks : List Cutback} → Stands a → Long a → Step a z rs ks → (past : List Round) (b : ℕ)
    → b < a.terms.bidders → Once past a b → Once (past ++ rs) z b
unfolding with_card revised
step_once S L same past b hb O = rw append-nil O
step_once S L (card c ls) past b hb O = rw append-nil (record { whole = O.whole; retained = O.retained; withdrawn = O.withdrawn })
step_once {a} S L (cut targets caps u m) past b hb O =
    let C = cut_only a targets caps S u m in
    let z : Auction = cut_back a targets caps in
    let i = ap (λ t. initial_of t b) C.settings in
    let k = ap (λ t. sum_up_to (λ p. retained_in (record_of z b p)) t.terms.products) C.settings in
    let q = sum_ext (λ p. retained_in (record_of z b p)) (λ p. retained_in (record_of a b p)) a.terms.products
    (λ p hp. ap total (C.retained b p (omega (arith, S.limits.bidders)) (omega (arith, S.limits.products)))) in
    rw append-nil (record { whole = omega (arith, O.whole, C.eligible b hb); retained = omega (arith, O.retained); withdrawn = O.withdrawn })
step_once {a} S L (round draw os u D F) past b hb O =
    let A = bids_accepted a S u in
    let r : Round = record { auction = a; draw = draw; overrides = os } in
    let z : Auction = (calculated a draw os).auction in
    let m = a.terms.products in
    let t = round_setup a draw os S L u D F A in
    let i = ap (λ t. initial_of t b) t in
    let k = ap (λ t. sum_up_to (λ p. retained_in (record_of z b p)) t.terms.products) t in
    let g = rounds_on (given_up b) past (r ∷ []) in
    let w = rounds_on (withdrawn_in b) past (r ∷ []) in
    let e = round_eligibility a draw os S L u D F A b hb in
    let x = sum_add (λ p. bid_in (bid_on a b p)) (λ p. denied_in (record_of a b p)) m in
    let y = sum_add (λ p. going_in (record_of a b p)) (λ p. denied_in (record_of a b p)) m in
    let v = sum_add (λ p. retained_in (record_of a b p)) (λ p. withdrawn_on (bid_on a b p)) m in
    let q = sum_le (λ p. retained_in (record_of z b p)) (λ p. retained_in (record_of a b p) + withdrawn_on (bid_on a b p)) m
    (λ p hp. round_retained a draw os S L u D F A b p hb hp) in
    let h = sum_six (λ p. bid_in (bid_on a b p)) (λ p. reduction (record_of a b p) (bid_on a b p)) (λ p. 0)
    (λ p. going_in (record_of a b p)) (λ p. increase (record_of a b p) (bid_on a b p)) (λ p. 0) m (λ p _. omega arith) in
    record {
      whole = omega (arith, O.whole, (A b hb).eligible);
      retained = omega (arith, O.retained);
      withdrawn = omega (arith, O.withdrawn, (A b hb).total, sum_zero m);
    }

run_once : (s : List ℕ) → StandsIn s → (cs : List Call) (past : List Round) (b : ℕ) → b < (loaded s).terms.bidders
    → Once past (loaded s) b → Once (past ++ rounds s cs) (loaded (run s cs)) b
run_once s S [] past b hb O = rw append-nil O
run_once s S (c ∷ cs) past b hb O =
    rw (← append_assoc past (round_of s c) (rounds (after s c) cs))
    (run_once (after s c) (after_stands s S c) cs (past ++ round_of s c) b
    (let n = ap (λ t. t.bidders) (run_keeps s S (c ∷ [])).terms in omega arith)
    (step_once (stood s S) (loaded_long s) (step s S c) past b hb O))

opened_bidder : (t : Setup) (b : ℕ) → b < t.terms.bidders → b < (opened t).terms.bidders
unfolding opened
opened_bidder t b h = h

-- before round 1 nothing is held, and all of it is free
opened_once : (t : Setup) (b : ℕ) → b < 32 → Once [] (opened t) b
unfolding opened
opened_once t b h =
    let w = sum_ext (λ p. going_in (record_of (opened t) b p) + denied_in (record_of (opened t) b p)) (λ p. 0) t.terms.products (λ p _.
    let e = blank nothing 256 (place b p) in
    let g = ap going_in e in
    let d = ap denied_in e in
    omega arith) in
    let r = sum_ext (λ p. retained_in (record_of (opened t) b p)) (λ p. 0) t.terms.products (λ p _. ap retained_in (blank nothing 256 (place b p))) in
    record { whole = omega (arith, sum_zero t.terms.products, opened_free t b h); retained = omega (arith, sum_zero t.terms.products); withdrawn = omega arith }

-- ---- from an opening

module _ (s : List ℕ) (x : Settings) (new : open_number s x ≡ 0) (e : length x.eligibility ≡ 32) (r : length x.row ≡ 8)
    (cs : List Call) (c : Closed (run (opened_by s x) cs)) where
  abbrev end : List ℕ
  end = run (opened_by s x) cs

  abbrev rs : List Round
  rs = rounds (opened_by s x) cs

  stands : StandsIn end
  stands = opened_stands s x new e r cs

  -- "every awarded tranche had been offered by that bidder, .. at no more than the price it is paid"
  pub every_award_offered : (b p : ℕ) → b < (terms_of x).bidders → p < (terms_of x).products
      → AwardOffered (rounds (opened_by s x) cs) (run (opened_by s x) cs) b p
  every_award_offered b p hb hp =
      let nb = bidding s x new e r cs b hb in
      let np = in_use s x new e r cs p hp in
      let K = run_backed (opened_by s x) (open_stands_lem s x new e r) cs no_offer b p
      (rw (open_loaded s x new e r) (λ _ _. opened_backed (setup_of x) b p)) nb np in
      let q = paid_is end stands c p np in
      let S = stood end stands in
      record {
        parts = award_is end stands c b p nb np;
        going = K.going;
        denied = K.denied;
        retained = rw q (retained_offered (loaded end) S c b p nb np _ K);
        own = K.own;
        going_paid = rw q (going_paid (loaded end) S c b p nb np _ K);
        denied_paid = rw q (denied_paid (loaded end) S c b p nb np _ K);
      }

  -- so that no more are awarded on a product than were ever offered there
  pub within_offers : (b p : ℕ) → b < (terms_of x).bidders → p < (terms_of x).products
      → award_on (run (opened_by s x) cs) b p ≤ (on_offer (rounds (opened_by s x) cs) b p).ever
  within_offers b p hb hp =
      let A = every_award_offered b p hb hp in
      omega (
        arith,
        A,
        (A.retained 0 (omega arith)).few,
        (A.retained 1 (omega arith)).few,
        (A.retained 2 (omega arith)).few,
        (A.retained 3 (omega arith)).few,
      )

  -- over all products, each tranche of a bidder's initial eligibility is awarded once or given up once
  pub awarded_once : (b : ℕ) → b < (terms_of x).bidders → AwardedOnce (setup_of x) (rounds (opened_by s x) cs) (run (opened_by s x) cs) b
  unfolding setup_of
  awarded_once b hb =
      let nb = bidding s x new e r cs b hb in
      let t = opened_settings s x new e r cs in
      let k = opened_keeps s x new e r cs in
      let O = run_once (opened_by s x) (open_stands_lem s x new e r) cs [] b (rw (open_loaded s x new e r) (opened_bidder (setup_of x) b hb))
      (rw (open_loaded s x new e r) (opened_once (setup_of x) b (omega (arith, (stood end stands).limits.bidders)))) in
      let m = ap (λ t. t.products) (opened_terms s x new e r cs) in
      let i = ap (λ t. initial_of t b) t ∙ ap (λ l. tranches_at l b) k.eligibility in
      let p = ap (λ m. sum_up_to (λ p. going_in (record_of (loaded end) b p) + denied_in (record_of (loaded end) b p)) m) m in
      let q = ap (λ m. sum_up_to (λ p. retained_in (record_of (loaded end) b p)) m) m in
      let f = closed_free (loaded end) (stood end stands) c b nb in
      record { whole = omega (arith, O.whole); retained = omega (arith, O.retained); withdrawn = O.withdrawn }
