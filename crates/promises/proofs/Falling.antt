-- Prices along a run of calls. Assumes nothing.
use mathlib.Core.Path.{◌≡◌, refl, ◌∙◌, ap}
use mathlib.Core.Bool.{Bool, true, false}
use mathlib.Core.Logic.{◌⊎◌, inl, inr, ◌↔◌}
use mathlib.Core.List.{List, [], ◌++◌}
use Prim.Native.Nat.{ℕ, ◌≤◌, ◌<◌}
use native.Mathlib.Omega.{arith}
use borrow.Author.Tests.{ltb-true, ltb-false}
use lib.ListN.{length}
use lib.Dec.{ltb}
use Rattle.rules.specs.Price.{Override}
use Rattle.rules.specs.declared.Settings.{Settings}
use Rattle.rules.specs.declared.Auction.{Auction}
use Rattle.rules.specs.Settings.{setup, terms_of, setup_of, target_of, start_of}
use Rattle.rules.specs.Held.{held}
use Rattle.rules.specs.Bid.{price_at, before_at}
use Rattle.rules.specs.Round.{calculated}
use Rattle.rules.specs.Layout.{loaded}
use Rattle.rules.specs.Legal.{is_open}
use Rattle.rules.specs.Calls.{open_number, with_card, calculate_number, calculate_call}
use Rattle.rules.specs.Stands.{Stands, Long}
use Rattle.rules.proofs.Storing.{loaded_long}
use Rattle.laws.proofs.Bids.{bids_accepted}
use Rattle.laws.specs.OneCall.{PriceAfter, StandsIn}
use Rattle.laws.proofs.Round.{round_prices}
use Rattle.laws.proofs.OneCall.{stood, open_stands_lem, calculate_accepts, calculate_loaded}
use Rattle.rules.specs.Uses.{Call, after}
use Rattle.promises.specs.Runs.{run, opened_by, Round, Cutback, cutback_of, cutbacks}
use Rattle.promises.proofs.Steps.{Step, same, card, round, cut, step, some_none, opened_stands, opened_settings, opened_keeps, in_use, parts_later}

-- ---- one calculation

module _ (s : List ℕ) (S : StandsIn s) (draw : List ℕ) (os : List Override) (n : calculate_number s draw os ≡ 0) (p : ℕ) (h : p < (loaded s).terms.products) where
  priced : PriceAfter (loaded s) (loaded (calculate_call s draw os).bytes) p
  priced =
      let o = calculate_accepts s S draw os n in
      rw (calculate_loaded s S draw os n)
      (round_prices (loaded s) draw os (stood s S) (loaded_long s) o.0 o.1 o.2 (bids_accepted (loaded s) (stood s S) o.0) p h)

  falls_by : is_open (loaded (calculate_call s draw os).bytes) ≡ true → (t : Bool)
      → ltb (target_of (setup (loaded s)) p) (held (loaded (calculate_call s draw os).bytes).records (loaded s).terms.bidders p) ≡ t
      → price_at (loaded (calculate_call s draw os).bytes) p < price_at (loaded s) p
      → target_of (setup (loaded s)) p < held (loaded (calculate_call s draw os).bytes).records (loaded s).terms.bidders p
  falls_by o true e l = ltb-true _ _ e
  falls_by o false e l = absurd (let x : ⊥ = omega (arith, priced.stayed o (ltb-false _ _ e)) in x)

  -- "prices fall and the next round opens": over a calculation that leaves the auction open a price falls, by at least 1, exactly where
  -- more than the target is held
  pub price_falls : is_open (loaded (calculate_call s draw os).bytes) ≡ true
      → (price_at (loaded (calculate_call s draw os).bytes) p < price_at (loaded s) p)
      ↔ (target_of (setup (loaded s)) p < held (loaded (calculate_call s draw os).bytes).records (loaded s).terms.bidders p)
  price_falls o = (falls_by o _ refl, λ l. (priced.fell o l).0)

-- ---- any call but an accepted cutback, whose prices are worked out afresh

-- "the price q before its latest fall": a price falls, and q is the price that stood; or both stay
abbrev pub FallsOrStays : Auction → Auction → ℕ → Type 0
FallsOrStays a z p =
    ((price_at z p < price_at a p) × (before_at z p ≡ price_at a p)) ⊎ ((price_at z p ≡ price_at a p) × (before_at z p ≡ before_at a p))

after_by : (a z : Auction) (p : ℕ) → PriceAfter a z p → (t u : Bool) → is_open z ≡ t
    → ltb (target_of (setup a) p) (held z.records a.terms.bidders p) ≡ u → FallsOrStays a z p
after_by a z p A true true e f = inl (A.fell e (ltb-true _ _ f))
after_by a z p A true false e f = inr (A.stayed e (ltb-false _ _ f))
after_by a z p A false u e f = inr (A.ended e)

step_price : {a z : Auction} {rs : List Round} {ks : List Cutback} → Stands a → Long a → Step a z rs ks → ks ≡ [] → (p : ℕ)
    → p < a.terms.products → FallsOrStays a z p
unfolding with_card
step_price S L same e p h = inr (refl, refl)
step_price S L (card b ls) e p h = inr (refl, refl)
step_price S L (cut targets caps o m) e p h = some_none (record { targets = targets; caps = caps }) [] e
step_price {a} S L (round draw os o D O) e p h =
    after_by a (calculated a draw os).auction p (round_prices a draw os S L o D O (bids_accepted a S o) p h) _ _ refl refl

pub price_before : (s : List ℕ) → StandsIn s → (c : Call) → cutback_of s c ≡ [] → (p : ℕ) → p < (loaded s).terms.products
    → FallsOrStays (loaded s) (loaded (after s c)) p
price_before s S c = step_price (stood s S) (loaded_long s) (step s S c)

-- ---- from an opening

module _ (s : List ℕ) (x : Settings) (new : open_number s x ≡ 0) (e : length x.eligibility ≡ 32) (r : length x.row ≡ 8)
    (cs : List Call) where
  -- no price rises over calls with no accepted cutback among them
  pub no_price_rises : (ds : List Call) → cutbacks (run (opened_by s x) cs) ds ≡ [] → (p : ℕ) → p < (terms_of x).products
      → price_at (loaded (run (opened_by s x) (cs ++ ds))) p ≤ price_at (loaded (run (opened_by s x) cs)) p
  no_price_rises ds u p h = (parts_later (opened_by s x) (open_stands_lem s x new e r) cs ds u).price p (in_use s x new e r cs p h)

  -- it is never below 1, nor above q, and q never above the starting price
  pub price_within : (p : ℕ) → p < (terms_of x).products
      → (1 ≤ price_at (loaded (run (opened_by s x) cs)) p)
      × (price_at (loaded (run (opened_by s x) cs)) p ≤ before_at (loaded (run (opened_by s x) cs)) p)
      × (before_at (loaded (run (opened_by s x) cs)) p ≤ start_of (setup_of x) p)
  price_within p h =
      let S = opened_stands s x new e r cs in
      let i = in_use s x new e r cs p h in
      let t = ap (λ t. start_of t p) (opened_settings s x new e r cs)
      ∙ (opened_keeps s x new e r cs).start p (omega (arith, (stood _ S).limits.products)) in
      omega (arith, (stood _ S).prices p i)
