-- Document 02, request 11: quiet rounds cannot go on. Assumes nothing.
use mathlib.Core.Path.{◌≡◌, refl, sym, ◌∙◌, ap}
use mathlib.Core.Bool.{Bool, true, false, cond}
use mathlib.Core.Logic.{◌⊎◌, inl, inr}
use mathlib.Core.List.{List, [], ◌∷◌, ◌++◌}
use Prim.Native.Nat.{ℕ, ◌+◌, ◌≤◌, ◌<◌}
use native.Mathlib.Omega.{arith}
use borrow.Author.Tests.{ltb-true, ltb-false}
use lib.ListN.{length, length-append}
use lib.Dec.{eqb, ltb}
use Rattle.rules.specs.Price.{Override}
use Rattle.rules.specs.declared.Tranches.{Tranches}
use Rattle.rules.specs.declared.Settings.{Settings}
use Rattle.rules.specs.declared.Auction.{Auction}
use Rattle.rules.specs.Count.{sum_up_to}
use Rattle.rules.specs.Answers.{bids_open}
use Rattle.rules.specs.Settings.{setup, setup_of, target_of}
use Rattle.rules.specs.Held.{denied_in}
use Rattle.rules.specs.Bid.{record_of, price_at}
use Rattle.rules.specs.Round.{draw_fits, overrides_fit, calculated}
use Rattle.rules.specs.Cutback.{may_cut, revised, cut_back}
use Rattle.rules.specs.Layout.{loaded}
use Rattle.rules.specs.Legal.{is_open}
use Rattle.rules.specs.Calls.{open_number, with_card}
use Rattle.rules.specs.Stands.{Stands, Long}
use Rattle.rules.specs.Uses.{Call, after}
use Rattle.rules.proofs.Sums.{sum_ext, sum_le}
use Rattle.rules.proofs.Lists.{clash}
use Rattle.rules.proofs.Tests.{told}
use Rattle.rules.proofs.Storing.{loaded_long}
use Rattle.laws.specs.OneCall.{StandsIn}
use Rattle.laws.specs.Quiet.{Quiet, denied_on, denied_standing, Moves, volume}
use Rattle.laws.proofs.Bids.{bids_accepted}
use Rattle.laws.proofs.Cutback.{cut_only}
use Rattle.laws.proofs.OneCall.{stood}
use Rattle.laws.proofs.Quiet.{denied_late, round_after, quiet_before, quiet_fewer, quiet_volume, moves_or_quiet}
use Rattle.promises.specs.Runs.{run, opened_by, Round, round_of, rounds, Cutback, cutback_of, cutbacks, settings_after}
use Rattle.promises.specs.Quiet.{Calculates, further, MovesWithin, Enough}
use Rattle.promises.proofs.Steps.{Step, same, card, round, cut, step, after_stands, run_on, run_stands, run_keeps, none_left, run_later, opened_stands, opened_settings, opened_keeps}
use Rattle.promises.proofs.Closing.{ended_stays}

-- ---- one call

-- quiet, or without a denied switch
abbrev Ready : Auction → Type 0
Ready a = Quiet a ⊎ (denied_standing a ≡ 0)

-- a cutback is of round 2, in which no denied switch stands; it makes none
cut_none : (a : Auction) (targets caps : List Tranches) → Stands a → is_open a ≡ true → may_cut a targets caps ≡ true
    → denied_standing (cut_back a targets caps) ≡ 0
unfolding revised
cut_none a targets caps S o c =
    let C = cut_only a targets caps S o c in
    let r : a.round ≡ 2 = search told in
    let z = cut_back a targets caps in
    let t = ap (λ t. t.terms) C.settings in
    let x = ap (λ t. sum_up_to (λ p. sum_up_to (λ b. denied_in (record_of z b p)) t.bidders) t.products) t in
    let y = sum_ext (λ p. sum_up_to (λ b. denied_in (record_of z b p)) a.terms.bidders) (denied_on a) a.terms.products (λ p hp.
    sum_ext _ _ a.terms.bidders (λ b hb. C.denied b p (omega (arith, S.limits.bidders)) (omega (arith, S.limits.products)))) in
    none (ltb 0 (denied_standing z)) refl (λ h. denied_late a S o (omega arith)) r
  where
    none : (t : Bool) → ltb 0 (denied_standing (cut_back a targets caps)) ≡ t → (0 < denied_standing (cut_back a targets caps) → 3 ≤ a.round) → a.round ≡ 2
        → denied_standing (cut_back a targets caps) ≡ 0
    none true e l r = absurd (let x : ⊥ = omega (arith, l (ltb-true _ _ e)) in x)
    none false e l r = omega (arith, ltb-false 0 (denied_standing (cut_back a targets caps)) e)

-- a call that is n calculations makes z of a: it is one, by which the auction moves; or the denied switches that stand then, with n, are at most k
abbrev Onward : ℕ → Auction → Auction → ℕ → Type 0
Onward k a z n = ((n ≡ 1) × Moves a z) ⊎ (Ready z × (denied_standing z + n ≤ k))

module _ (a : Auction) (S : Stands a) (L : Long a) where
  round_on : (draw : List ℕ) (os : List Override) (o : is_open a ≡ true) (D : draw_fits a.terms.bidders draw ≡ true) (O : overrides_fit os ≡ true) (k : ℕ)
      → (Quiet (calculated a draw os).auction → denied_standing (calculated a draw os).auction + 1 ≤ k) → Onward k a (calculated a draw os).auction 1
  round_on draw os o D O k f = by (moves_or_quiet a draw os S L o D O (bids_accepted a S o))
    where
      by : Moves a (calculated a draw os).auction ⊎ Quiet (calculated a draw os).auction → Onward k a (calculated a draw os).auction 1
      by (inl m) = inl (refl, m)
      by (inr q) = inr (inl q, f q)

  cut_on : (targets caps : List Tranches) → is_open a ≡ true → may_cut a targets caps ≡ true → (k : ℕ) → Onward k a (cut_back a targets caps) 0
  cut_on targets caps o c k = let e = cut_none a targets caps S o c in inr (inr e, omega arith)

step_on : {a z : Auction} {rs : List Round} {ks : List Cutback} → Stands a → Long a → Step a z rs ks → Ready a → Onward (denied_standing a) a z (length rs)
unfolding with_card
step_on S L same r = inr (r, omega arith)
step_on S L (card b ls) (inl q) = inr (inl (record { bidding = q.bidding; none_above = q.none_above }), omega arith)
step_on S L (card b ls) (inr e) = inr (inr e, omega arith)
step_on {a} S L (round draw os o D O) (inl q) =
    round_on a S L draw os o D O (denied_standing a) (quiet_fewer a draw os S L o D O (bids_accepted a S o) q)
step_on {a} S L (round draw os o D O) (inr e) =
    round_on a S L draw os o D O (denied_standing a) (λ q.
    absurd (let x : ⊥ = omega (arith, quiet_before a draw os S L o D O (bids_accepted a S o) q) in x))
step_on {a} S L (cut targets caps o m) r = cut_on a S L targets caps o m (denied_standing a)

-- ---- calls from a quiet state

-- the first of them
moves_first : (s : List ℕ) (c : Call) (cs : List Call) (k : ℕ) → Calculates s c → Moves (loaded s) (loaded (after s c)) → MovesWithin (k + 1) s (c ∷ cs)
moves_first s c cs k one m = record { before = []; call = c; rest = cs; split = refl; calculates = one; few = omega arith; moves = m }

-- a later one
moves_later : (s : List ℕ) (c : Call) (cs : List Call) (j k : ℕ) → j + length (round_of s c) ≤ k → MovesWithin j (after s c) cs → MovesWithin k s (c ∷ cs)
moves_later s c cs j k l M = record {
  before = c ∷ M.before;
  call = M.call;
  rest = M.rest;
  split = ap (λ ds. c ∷ ds) M.split;
  calculates = M.calculates;
  few = omega (arith, M.few, length-append (round_of s c) (rounds (after s c) M.before));
  moves = M.moves;
}

-- with fewer, so with more
within_more : (s : List ℕ) (cs : List Call) (j k : ℕ) → j ≤ k → MovesWithin j s cs → MovesWithin k s cs
within_more s cs j k l M = record {
  before = M.before;
  call = M.call;
  rest = M.rest;
  split = M.split;
  calculates = M.calculates;
  few = omega (arith, M.few);
  moves = M.moves;
}

ready_ends : (s : List ℕ) → StandsIn s → Ready (loaded s) → (cs : List Call) → denied_standing (loaded s) < length (rounds s cs)
    → MovesWithin (further (loaded s)) s cs
ready_ends s S r [] l = absurd (let x : ⊥ = omega arith in x)
ready_ends s S r (c ∷ cs) l =
    by (step_on (stood s S) (loaded_long s) (step s S c) r) (λ r. ready_ends (after s c) (after_stands s S c) r cs)
  where
    by : Onward (denied_standing (loaded s)) (loaded s) (loaded (after s c)) (length (round_of s c))
        → (Ready (loaded (after s c)) → denied_standing (loaded (after s c)) < length (rounds (after s c) cs)
        → MovesWithin (further (loaded (after s c))) (after s c) cs)
        → MovesWithin (further (loaded s)) s (c ∷ cs)
    by (inl m) go = moves_first s c cs (denied_standing (loaded s)) m.0 m.1
    by (inr p) go =
        moves_later s c cs (further (loaded (after s c))) (further (loaded s)) (omega (arith, p.1))
        (go p.0 (omega (arith, p.1, length-append (round_of s c) (rounds (after s c) cs))))

-- "some price falls, or the auction closes or stops, within D + 1 further calculations": from any standing state, open with no product above
-- target, whatever calls are made, as soon as more than D calculations among them are accepted
pub quiet_ends : (s : List ℕ) → StandsIn s → Quiet (loaded s) → (cs : List Call) → denied_standing (loaded s) < length (rounds s cs)
    → MovesWithin (further (loaded s)) s cs
quiet_ends s S q = ready_ends s S (inl q)

-- where no denied switch stands the next calculation does it, quiet or not
pub none_denied : (s : List ℕ) → StandsIn s → denied_standing (loaded s) ≡ 0 → (cs : List Call) → 0 < length (rounds s cs) → MovesWithin 1 s cs
none_denied s S e cs l = rw e at (ready_ends s S (inr e) cs (omega arith))

-- ---- calls from any state: no more calculations in a row than the volume has tranches

step_longest : {a z : Auction} {rs : List Round} {ks : List Cutback} → Stands a → Long a → Step a z rs ks
    → Onward (volume (setup a)) a z (length rs) ⊎ ((setup z ≡ setup a) × (length rs ≡ 0))
unfolding with_card
step_longest S L same = inr (refl, refl)
step_longest S L (card b ls) = inr (refl, refl)
step_longest {a} S L (round draw os o D O) =
    inl (round_on a S L draw os o D O (volume (setup a)) (quiet_volume a draw os S L o D O (bids_accepted a S o)))
step_longest {a} S L (cut targets caps o m) = inl (cut_on a S L targets caps o m (volume (setup a)))

pub longest : (s : List ℕ) → StandsIn s → (cs : List Call) → volume (setup (loaded s)) < length (rounds s cs)
    → MovesWithin (volume (setup (loaded s)) + 1) s cs
longest s S [] l = absurd (let x : ⊥ = omega arith in x)
longest s S (c ∷ cs) l = by (step_longest (stood s S) (loaded_long s) (step s S c)) (longest (after s c) (after_stands s S c) cs)
  where
    n : length (rounds s (c ∷ cs)) ≡ length (round_of s c) + length (rounds (after s c) cs)
    n = length-append (round_of s c) (rounds (after s c) cs)

    by : Onward (volume (setup (loaded s))) (loaded s) (loaded (after s c)) (length (round_of s c))
        ⊎ ((setup (loaded (after s c)) ≡ setup (loaded s)) × (length (round_of s c) ≡ 0))
        → (volume (setup (loaded (after s c))) < length (rounds (after s c) cs)
        → MovesWithin (volume (setup (loaded (after s c))) + 1) (after s c) cs)
        → MovesWithin (volume (setup (loaded s)) + 1) s (c ∷ cs)
    by (inl (inl m)) go = moves_first s c cs (volume (setup (loaded s))) m.0 m.1
    by (inl (inr p)) go =
        moves_later s c cs (further (loaded (after s c))) (volume (setup (loaded s)) + 1) (omega (arith, p.1))
        (ready_ends (after s c) (after_stands s S c) p.0 cs (omega (arith, p.1, n)))
    by (inr p) go =
        let e = ap volume p.0 in
        moves_later s c cs (volume (setup (loaded (after s c))) + 1) (volume (setup (loaded s)) + 1) (omega (arith, p.1)) (go (omega (arith, p.1, n)))

-- ---- what has moved stays moved, with no cutback accepted

parts_none : (s : List ℕ) (cs ds : List Call) → cutbacks s (cs ++ ds) ≡ [] → (cutbacks s cs ≡ []) × (cutbacks (run s cs) ds ≡ [])
parts_none s [] ds e = (refl, e)
parts_none s (c ∷ cs) ds e =
    let n = none_left (cutback_of s c) (cutbacks (after s c) (cs ++ ds)) e in
    let r = parts_none (after s c) cs ds n.1 in
    (rw (n.0, r.0), r.1)

pub stays_moved : (s : List ℕ) → StandsIn s → (cs : List Call) (k : ℕ) → cutbacks s cs ≡ [] → MovesWithin k s cs → Moves (loaded s) (loaded (run s cs))
stays_moved s S cs k u M =
    rw (ap (run s) M.split ∙ run_on s M.before (M.call ∷ M.rest)) (by M.moves)
  where
    Y : StandsIn (run s M.before)
    Y = run_stands s S M.before

    W : StandsIn (after (run s M.before) M.call)
    W = after_stands (run s M.before) Y M.call

    parts : (cutbacks s M.before ≡ []) × (cutbacks (run s M.before) (M.call ∷ M.rest) ≡ [])
    parts = parts_none s M.before (M.call ∷ M.rest) (ap (cutbacks s) (sym M.split) ∙ u)

    ended : is_open (loaded (after (run s M.before) M.call)) ≡ false
        → run (after (run s M.before) M.call) M.rest ≡ after (run s M.before) M.call
    ended e = ended_stays (after (run s M.before) M.call) W e M.rest

    by : Moves (loaded (run s M.before)) (loaded (after (run s M.before) M.call))
        → Moves (loaded s) (loaded (run (after (run s M.before) M.call) M.rest))
    by (inl f) =
        let A = run_later s S M.before parts.0 in
        let B = run_later (after (run s M.before) M.call) W M.rest (none_left (cutback_of (run s M.before) M.call) _ parts.1).1 in
        let x = ap (λ t. t.terms.products) A.settings in
        let v = ap (λ t. t.products) (run_keeps (run s M.before) Y (M.call ∷ [])).terms in
        let h : f.0 < (loaded s).terms.products = omega (arith, f.1) in
        inl (f.0, h, omega (arith, f.2, A.price f.0 h, B.price f.0 (omega (arith, f.1))))
    by (inr (inl e)) = let t = ended (ap (λ x. eqb x bids_open) e) in inr (inl (ap (λ b. (loaded b).phase) t ∙ e))
    by (inr (inr e)) = let t = ended (ap (λ x. eqb x bids_open) e) in inr (inr (ap (λ b. (loaded b).phase) t ∙ e))

-- so that where all prices are as before and bids are open, it had not moved
pub unmoved : (s : List ℕ) → StandsIn s → (cs : List Call) → cutbacks s cs ≡ [] → is_open (loaded (run s cs)) ≡ true
    → ((p : ℕ) → p < (loaded s).terms.products → price_at (loaded (run s cs)) p ≡ price_at (loaded s) p) → (k : ℕ) → MovesWithin k s cs → ⊥
unmoved s S cs u o e k M = by (stays_moved s S cs k u M)
  where
    by : Moves (loaded s) (loaded (run s cs)) → ⊥
    by (inl f) = omega (arith, f.2, e f.0 f.1)
    by (inr (inl c)) = clash o (ap (λ x. eqb x bids_open) c)
    by (inr (inr c)) = clash o (ap (λ x. eqb x bids_open) c)

-- ---- after a calculation

-- a round never comes back, and from round 3 on no cutback is accepted
step_late : {a z : Auction} {rs : List Round} {ks : List Cutback} → Stands a → Long a → Step a z rs ks → 3 ≤ a.round → (ks ≡ []) × (3 ≤ z.round)
unfolding with_card
step_late S L same l = (refl, l)
step_late S L (card b ls) l = (refl, l)
step_late {a} S L (round draw os o D O) l = (refl, by (is_open (calculated a draw os).auction) (round_after a draw os S L o D O (bids_accepted a S o)))
  where
    by : (t : Bool) → (calculated a draw os).auction.round ≡ cond t (a.round + 1) a.round → 3 ≤ (calculated a draw os).auction.round
    by true e = omega arith
    by false e = omega arith
step_late {a} S L (cut targets caps o m) l = let r : a.round ≡ 2 = search told in absurd (let x : ⊥ = omega arith in x)

late_none : (s : List ℕ) → StandsIn s → 3 ≤ (loaded s).round → (cs : List Call) → cutbacks s cs ≡ []
late_none s S l [] = refl
late_none s S l (c ∷ cs) =
    let t = step_late (stood s S) (loaded_long s) (step s S c) l in
    rw (t.0, late_none (after s c) (after_stands s S c) t.1 cs)

-- what a calculation leaves quiet is in round 4 or later
step_quiet : {a z : Auction} {rs : List Round} {ks : List Cutback} → Stands a → Long a → Step a z rs ks → length rs ≡ 1 → Quiet z → 4 ≤ z.round
step_quiet S L same n q = absurd (let x : ⊥ = omega arith in x)
step_quiet S L (card b ls) n q = absurd (let x : ⊥ = omega arith in x)
step_quiet {a} S L (round draw os o D O) n q =
    let A = bids_accepted a S o in
    let e = rw q.bidding at (round_after a draw os S L o D O A) in
    omega (arith, denied_late a S o (quiet_before a draw os S L o D O A q))
step_quiet S L (cut targets caps o m) n q = absurd (let x : ⊥ = omega arith in x)

-- "after a calculation that leaves the auction open with no product above target and D denied switches standing": s is any standing state, and
-- c the calculation, by either engine
module _ (s : List ℕ) (S : StandsIn s) (c : Call) (n : Calculates s c) (q : Quiet (loaded (after s c))) where
  -- "some price falls, or the auction closes or stops, within D + 1 further calculations",
  pub calculated_ends : (cs : List Call) → denied_standing (loaded (after s c)) < length (rounds (after s c) cs)
      → MovesWithin (further (loaded (after s c))) (after s c) cs
  calculated_ends = quiet_ends (after s c) (after_stands s S c) q

  -- it is in round 4 or later, so that no cutback is accepted any more,
  pub calculated_late : 4 ≤ (loaded (after s c)).round
  calculated_late = step_quiet (stood s S) (loaded_long s) (step s S c) n q

  pub no_cutback : (cs : List Call) → cutbacks (after s c) cs ≡ []
  no_cutback = late_none (after s c) (after_stands s S c) (omega (arith, calculated_late))

  -- and after all of the calls the auction has ended, or some price is lower than it was
  pub lower_at_last : (cs : List Call) → denied_standing (loaded (after s c)) < length (rounds (after s c) cs)
      → Moves (loaded (after s c)) (loaded (run (after s c) cs))
  lower_at_last cs l =
      stays_moved (after s c) (after_stands s S c) cs (further (loaded (after s c))) (no_cutback cs) (calculated_ends cs l)

-- ---- from an opening

module _ (s : List ℕ) (x : Settings) (new : open_number s x ≡ 0) (e : length x.eligibility ≡ 32) (r : length x.row ≡ 8)
    (cs : List Call) where
  -- whatever was done since the opening, a calculation leaves the auction quiet, and whatever is done then
  pub quiet_rounds_end : (c : Call) → Calculates (run (opened_by s x) cs) c → Quiet (loaded (after (run (opened_by s x) cs) c)) → (ds : List Call)
      → denied_standing (loaded (after (run (opened_by s x) cs) c)) < length (rounds (after (run (opened_by s x) cs) c) ds)
      → MovesWithin (further (loaded (after (run (opened_by s x) cs) c))) (after (run (opened_by s x) cs) c) ds
  quiet_rounds_end c = calculated_ends (run (opened_by s x) cs) (opened_stands s x new e r cs) c

  -- how long at the most, told from the settings alone: of more calculations in a row than there are tranches in all, one lowers a price or ends
  -- the auction
  pub never_longer : (ds : List Call) → volume (setup_of x) < length (rounds (run (opened_by s x) cs) ds)
      → MovesWithin (volume (setup_of x) + 1) (run (opened_by s x) cs) ds
  never_longer ds l =
      let K = opened_keeps s x new e r cs in
      let z = run (opened_by s x) cs in
      let v = ap volume (opened_settings s x new e r cs) in
      let t = ap (λ t. t.products) K.terms in
      let m = sum_le (target_of (settings_after s x cs)) (target_of (setup_of x)) (setup_of x).terms.products K.target in
      let u = ap (sum_up_to (target_of (settings_after s x cs))) t in
      within_more z ds (volume (setup (loaded z)) + 1) (volume (setup_of x) + 1) (omega arith)
      (longest z (opened_stands s x new e r cs) ds (omega arith))

-- D + 1 are enough, whatever D is
pub enough : (d : ℕ) → Enough (d + 1) d
enough d s P c n q e cs l =
    let S : StandsIn s = rw P.left (opened_stands P.issued P.settings P.opens P.eligibility P.row P.calls) in
    within_more (after s c) cs _ (d + 1) (omega arith) (calculated_ends s S c n q cs (omega arith))
