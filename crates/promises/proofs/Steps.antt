-- What one call makes of a standing auction, and so a run of calls. Assumes nothing.
use mathlib.Core.Path.{◌≡◌, refl, sym, ◌∙◌, ap}
use mathlib.Core.Bool.{Bool, true, false, cond}
use mathlib.Core.List.{List, [], ◌∷◌, ◌++◌}
use Prim.Native.Nat.{ℕ, ◌≤◌, ◌<◌}
use native.Mathlib.Omega.{arith}
use borrow.Author.Tests.{eqb-true, eqb-false, eq-eqb}
use lib.ListN.{length}
use lib.Dec.{eqb}
use Rattle.rules.specs.Price.{Override}
use Rattle.rules.specs.declared.Tranches.{Tranches}
use Rattle.rules.specs.declared.Line.{Line}
use Rattle.rules.specs.declared.Settings.{Settings}
use Rattle.rules.specs.declared.Setup.{Setup}
use Rattle.rules.specs.declared.Auction.{Auction}
use Rattle.rules.specs.Settings.{setup, terms_of, setup_of, target_of}
use Rattle.rules.specs.Held.{held}
use Rattle.rules.specs.Bid.{price_at}
use Rattle.rules.specs.Round.{draw_fits, overrides_fit, calculated}
use Rattle.rules.specs.Cutback.{may_cut, revised, cut_back}
use Rattle.rules.specs.Layout.{loaded}
use Rattle.rules.specs.Legal.{is_open}
use Rattle.rules.specs.Calls.{open_number, file_number, file_call, with_card, calculate_number, calculate_call, plain_number, plain_call, cutback_number, cutback_call}
use Rattle.rules.specs.Stands.{Stands, Long}
use Rattle.rules.proofs.Storing.{loaded_long}
use Rattle.laws.proofs.Bids.{bids_accepted}
use Rattle.laws.proofs.Round.{round_setup, round_filled, round_prices}
use Rattle.rules.proofs.Reduced.{revised_target, revised_cap, revised_start, cut_numbers}
use Rattle.laws.proofs.Cutback.{cut_only}
use Rattle.laws.specs.OneCall.{StandsIn}
use Rattle.laws.proofs.OneCall.{stood, open_stands_lem, open_setup, open_standing, file_loaded, file_refused, file_stands, calculate_accepts, calculate_loaded, calculate_refused, calculate_stands, plain_refused, cutback_accepts, cutback_loaded, cutback_refused, cutback_stands}
use Rattle.laws.proofs.Plain.{plain_accepts, plain_call_lem, plain_leaves}
use Rattle.rules.specs.Uses.{Call, opens, files, counts, calculates, calculates_plain, cuts, reports, results, reads, writes, suggests, after}
use Rattle.promises.specs.Runs.{run, opened_by, filled_part, Round, round_of, Cutback, cutback_of, cutbacks, revised_by, settings_after}
use Rattle.promises.specs.Demands.{KeptBut}

-- ---- one call

-- what a call makes of the auction a, with the round that it calculates and the cutback that it is: nothing, a card more, the auction
-- after that round, or the auction cut back
pub data Step (a : Auction) : Auction → List Round → List Cutback → Type 0 where
  same : Step a a [] []
  card : (b : ℕ) (ls : List Line) → Step a (with_card a b ls) [] []
  round : (draw : List ℕ) (os : List Override) → is_open a ≡ true → draw_fits a.terms.bidders draw ≡ true → overrides_fit os ≡ true
      → Step a (calculated a draw os).auction (record { auction = a; draw = draw; overrides = os } ∷ []) []
  cut : (targets caps : List Tranches) → is_open a ≡ true → may_cut a targets caps ≡ true
      → Step a (cut_back a targets caps) [] (record { targets = targets; caps = caps } ∷ [])

module _ (s : List ℕ) (S : StandsIn s) where
  -- the same bytes, the same auction
  stays : (t : List ℕ) → t ≡ s → Step (loaded s) (loaded t) [] []
  stays t e = rw e same

  file_step : (c : List ℕ) (t : Bool) → eqb (file_number s c) 0 ≡ t → Step (loaded s) (loaded (file_call s c).bytes) [] []
  file_step c true e = rw (file_loaded s S c (eqb-true (file_number s c) 0 e)) (card _ _)
  file_step c false e = stays _ (file_refused s c (eqb-false (file_number s c) 0 e))

  calculate_step : (draw : List ℕ) (os : List Override) (t : Bool) → eqb (calculate_number s draw os) 0 ≡ t
      → Step (loaded s) (loaded (calculate_call s draw os).bytes) (cond t (record { auction = loaded s; draw = draw; overrides = os } ∷ []) []) []
  calculate_step draw os true e =
      let n = eqb-true (calculate_number s draw os) 0 e in
      let o = calculate_accepts s S draw os n in
      rw (calculate_loaded s S draw os n) (round draw os o.0 o.1 o.2)
  calculate_step draw os false e = stays _ (calculate_refused s draw os (eqb-false (calculate_number s draw os) 0 e))

  plain_step : (draw : List ℕ) (os : List Override) (order : List ℕ) (t : Bool) → eqb (plain_number s draw os order) 0 ≡ t
      → Step (loaded s) (loaded (plain_call s draw os order).bytes) (cond t (record { auction = loaded s; draw = draw; overrides = os } ∷ []) []) []
  plain_step draw os order true e =
      let p = plain_accepts s draw os order (eqb-true (plain_number s draw os order) 0 e) in
      rw (plain_call_lem s draw os order p.1) (calculate_step draw os true (eq-eqb (calculate_number s draw os) 0 p.0))
  plain_step draw os order false e = stays _ (plain_refused s draw os order (eqb-false (plain_number s draw os order) 0 e))

  cutback_step : (targets caps : List Tranches) (t : Bool) → eqb (cutback_number s targets caps) 0 ≡ t
      → Step (loaded s) (loaded (cutback_call s targets caps).bytes) [] (cond t (record { targets = targets; caps = caps } ∷ []) [])
  cutback_step targets caps true e =
      let n = eqb-true (cutback_number s targets caps) 0 e in
      let o = cutback_accepts s S targets caps n in
      rw (cutback_loaded s S targets caps n) (cut targets caps o.0 o.1)
  cutback_step targets caps false e = stays _ (cutback_refused s targets caps (eqb-false (cutback_number s targets caps) 0 e))

  pub step : (c : Call) → Step (loaded s) (loaded (after s c)) (round_of s c) (cutback_of s c)
  step (opens x) = stays _ (open_standing s x S).1
  step (files c) = file_step c (eqb (file_number s c) 0) refl
  step counts = same
  step (calculates draw os) = calculate_step draw os (eqb (calculate_number s draw os) 0) refl
  step (calculates_plain draw os order) = plain_step draw os order (eqb (plain_number s draw os order) 0) refl
  step (cuts targets caps) = cutback_step targets caps (eqb (cutback_number s targets caps) 0) refl
  step (reports b) = same
  step results = same
  step (reads c n) = same
  step (writes room n b r ls) = same
  step (suggests bid ratio) = same

  -- no call stops a standing state from standing
  pub after_stands : (c : Call) → StandsIn (after s c)
  after_stands (opens x) = rw (open_standing s x S).1 S
  after_stands (files c) = file_stands s S c
  after_stands counts = S
  after_stands (calculates draw os) = calculate_stands s S draw os
  after_stands (calculates_plain draw os order) = plain_leaves s draw os order StandsIn S (calculate_stands s S draw os)
  after_stands (cuts targets caps) = cutback_stands s S targets caps
  after_stands (reports b) = S
  after_stands results = S
  after_stands (reads c n) = S
  after_stands (writes room n b r ls) = S
  after_stands (suggests bid ratio) = S

-- ---- settings that are kept but for targets and caps

kept_same : (t : Setup) → KeptBut t t
kept_same t = record {
  terms = refl;
  eligibility = refl;
  decrements = refl;
  start = λ p h. refl;
  target = λ p h. omega arith;
  cap = λ p h. omega arith;
}

kept_on_lem : {t u v : Setup} → KeptBut t u → KeptBut u v → KeptBut t v
kept_on_lem A B =
    let m = ap (λ t. t.products) A.terms in
    record {
      terms = B.terms ∙ A.terms;
      eligibility = B.eligibility ∙ A.eligibility;
      decrements = B.decrements ∙ A.decrements;
      start = λ p h. B.start p h ∙ A.start p h;
      target = λ p h. omega (arith, A.target p h, B.target p (omega arith));
      cap = λ p h. omega (arith, A.cap p h, B.cap p (omega arith));
    }

-- ---- what no call but a cutback undoes

-- z comes after a: the same settings; the filled part of no product is less, no price more
pub record Later (a z : Auction) : Type 0 where
  pub settings : setup z ≡ setup a
  pub filled : (p : ℕ) → p < a.terms.products → filled_part a p ≤ filled_part z p
  pub price : (p : ℕ) → p < a.terms.products → price_at z p ≤ price_at a p

later_same : (a : Auction) → Later a a
later_same a = record { settings = refl; filled = λ p h. omega arith; price = λ p h. omega arith }

later_on : (a y z : Auction) → Later a y → Later y z → Later a z
later_on a y z A B =
    let e = ap (λ t. t.terms.products) A.settings in
    record {
      settings = B.settings ∙ A.settings;
      filled = λ p h. omega (arith, A.filled p h, B.filled p (omega arith));
      price = λ p h. omega (arith, A.price p h, B.price p (omega arith));
    }

-- one is not none
pub some_none : {A B : Type 0} (x : A) (xs : List A) → x ∷ xs ≡ [] → B
some_none x xs e = let z : ◌≡◌ {A = ℕ} 0 1 = cc in absurd (let f : ⊥ = omega arith in f)

step_later : {a z : Auction} {rs : List Round} {ks : List Cutback} → Stands a → Long a → Step a z rs ks → ks ≡ [] → Later a z
unfolding with_card
step_later {a} S L same e = later_same a
step_later {a} S L (card b ls) e = record { settings = refl; filled = λ p h. omega arith; price = λ p h. omega arith }
step_later {a} S L (round draw os o D O) _ =
    let A = bids_accepted a S o in
    let e = round_setup a draw os S L o D O A in
    let r = (calculated a draw os).auction.records in
    record {
      settings = e;
      filled = λ p h.
          let n = ap (λ t. held r t.terms.bidders p) e in
          let t = ap (λ t. target_of t p) e in
          omega (arith, round_filled a draw os S L o D O A p (filled_part a p) h (omega arith) (omega arith));
      price = λ p h. (round_prices a draw os S L o D O A p h).no_rise;
    }
step_later {a} S L (cut targets caps o m) e = some_none (record { targets = targets; caps = caps }) [] e

-- ---- the settings: a cutback revises targets and caps, and nothing else changes one

step_setup : {a z : Auction} {rs : List Round} {ks : List Cutback} → Stands a → Long a → Step a z rs ks → setup z ≡ revised_by (setup a) ks
unfolding with_card
step_setup S L same = refl
step_setup S L (card b ls) = refl
step_setup {a} S L (round draw os o D O) = round_setup a draw os S L o D O (bids_accepted a S o)
step_setup {a} S L (cut targets caps o m) = (cut_only a targets caps S o m).settings

step_keeps : {a z : Auction} {rs : List Round} {ks : List Cutback} → Stands a → Long a → Step a z rs ks → KeptBut (setup a) (setup z)
unfolding with_card revised
step_keeps {a} S L same = kept_same (setup a)
step_keeps {a} S L (card b ls) = kept_same (setup a)
step_keeps {a} S L (round draw os o D O) = rw (round_setup a draw os S L o D O (bids_accepted a S o)) (kept_same (setup a))
step_keeps {a} S L (cut targets caps o m) =
    let t = setup a in
    rw (cut_only a targets caps S o m).settings (record {
      terms = refl;
      eligibility = refl;
      decrements = refl;
      start = λ p h. revised_start t targets caps p h;
      target = λ p h. omega (arith, cut_numbers a targets caps S m p h, revised_target t targets caps p (omega (arith, S.limits.products)));
      cap = λ p h. omega (arith, cut_numbers a targets caps S m p h, revised_cap t targets caps p (omega (arith, S.limits.products)));
    })

-- ---- a run of calls

-- a run of two parts is the second from where the first ends
pub run_on : (s : List ℕ) (cs ds : List Call) → run s (cs ++ ds) ≡ run (run s cs) ds
run_on s [] ds = refl
run_on s (c ∷ cs) ds = run_on (after s c) cs ds

-- "No bytes, card, draw or call order may stop it or lead it astray": over any calls short of a return a standing state stands
pub run_stands : (s : List ℕ) → StandsIn s → (cs : List Call) → StandsIn (run s cs)
run_stands s S [] = S
run_stands s S (c ∷ cs) = run_stands (after s c) (after_stands s S c) cs

revised_on : (t : Setup) (js ks : List Cutback) → revised_by t (js ++ ks) ≡ revised_by (revised_by t js) ks
revised_on t [] ks = refl
revised_on t (j ∷ js) ks = revised_on (revised t j.targets j.caps) js ks

pub run_setup : (s : List ℕ) → StandsIn s → (cs : List Call) → setup (loaded (run s cs)) ≡ revised_by (setup (loaded s)) (cutbacks s cs)
run_setup s S [] = refl
run_setup s S (c ∷ cs) =
    run_setup (after s c) (after_stands s S c) cs
    ∙ ap (λ t. revised_by t (cutbacks (after s c) cs)) (step_setup (stood s S) (loaded_long s) (step s S c))
    ∙ sym (revised_on (setup (loaded s)) (cutback_of s c) (cutbacks (after s c) cs))

pub run_keeps : (s : List ℕ) → StandsIn s → (cs : List Call) → KeptBut (setup (loaded s)) (setup (loaded (run s cs)))
run_keeps s S [] = kept_same (setup (loaded s))
run_keeps s S (c ∷ cs) =
    kept_on_lem (step_keeps (stood s S) (loaded_long s) (step s S c)) (run_keeps (after s c) (after_stands s S c) cs)

-- where the whole has none, neither part has one
pub none_left : {A : Type 0} (xs ys : List A) → xs ++ ys ≡ [] → (xs ≡ []) × (ys ≡ [])
none_left [] ys e = (refl, e)
none_left (x ∷ xs) ys e = some_none x (xs ++ ys) e

-- with no cutback accepted
pub run_later : (s : List ℕ) → StandsIn s → (cs : List Call) → cutbacks s cs ≡ [] → Later (loaded s) (loaded (run s cs))
run_later s S [] e = later_same (loaded s)
run_later s S (c ∷ cs) e =
    let n = none_left (cutback_of s c) (cutbacks (after s c) cs) e in
    later_on (loaded s) (loaded (after s c)) (loaded (run (after s c) cs)) (step_later (stood s S) (loaded_long s) (step s S c) n.0)
    (run_later (after s c) (after_stands s S c) cs n.1)

-- the second part of a run comes after the first
pub parts_later : (s : List ℕ) → StandsIn s → (cs ds : List Call) → cutbacks (run s cs) ds ≡ []
    → Later (loaded (run s cs)) (loaded (run s (cs ++ ds)))
parts_later s S cs ds e = rw (run_on s cs ds) (run_later (run s cs) (run_stands s S cs) ds e)

-- ---- from an opening

module _ (s : List ℕ) (x : Settings) (new : open_number s x ≡ 0) (e : length x.eligibility ≡ 32) (r : length x.row ≡ 8) where
  -- an accepted opening and any calls after it leave a standing state,
  pub opened_stands : (cs : List Call) → StandsIn (run (opened_by s x) cs)
  opened_stands = run_stands (opened_by s x) (open_stands_lem s x new e r)

  -- of the settings that were opened, with the targets and caps of each cutback accepted since,
  pub opened_settings : (cs : List Call) → setup (loaded (run (opened_by s x) cs)) ≡ settings_after s x cs
  opened_settings cs =
      run_setup (opened_by s x) (open_stands_lem s x new e r) cs
      ∙ ap (λ t. revised_by t (cutbacks (opened_by s x) cs)) (open_setup s x new e r)

  -- which are those opened where none was,
  pub uncut_settings : (cs : List Call) → cutbacks (opened_by s x) cs ≡ [] → settings_after s x cs ≡ setup_of x
  uncut_settings cs u = ap (revised_by (setup_of x)) u

  -- and of no other: every other setting stays, and no target or cap is larger than opened
  pub opened_keeps : (cs : List Call) → KeptBut (setup_of x) (settings_after s x cs)
  opened_keeps cs =
      rw (opened_settings cs, open_setup s x new e r) at (run_keeps (opened_by s x) (open_stands_lem s x new e r) cs)

  -- what the auction has one of is as opened
  pub opened_terms : (cs : List Call) → (loaded (run (opened_by s x) cs)).terms ≡ terms_of x
  unfolding setup_of
  opened_terms cs = ap (λ t. t.terms) (opened_settings cs) ∙ (opened_keeps cs).terms

  -- products and bidders are those opened
  pub in_use : (cs : List Call) (p : ℕ) → p < (terms_of x).products → p < (loaded (run (opened_by s x) cs)).terms.products
  in_use cs p h = omega (arith, ap (λ t. t.products) (opened_terms cs))

  pub bidding : (cs : List Call) (b : ℕ) → b < (terms_of x).bidders → b < (loaded (run (opened_by s x) cs)).terms.bidders
  bidding cs b h = omega (arith, ap (λ t. t.bidders) (opened_terms cs))
