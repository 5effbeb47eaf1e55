-- Every bid of a standing open state is accepted: a card's, or the default. Assumes nothing.
use mathlib.Core.Path.{◌≡◌, refl}
use mathlib.Core.Bool.{Bool, true, false, cond}
use Prim.Native.Nat.{ℕ, ◌<◌}
use native.Mathlib.Omega.{arith}
use lib.ListN.{get_or}
use Rattle.rules.specs.declared.Auction.{Auction}
use Rattle.rules.specs.Settings.{setup, cap_of}
use Rattle.rules.specs.Card.{no_line}
use Rattle.rules.specs.Held.{place, ticked, free_of}
use Rattle.rules.specs.Bid.{record_of, price_at, before_at, on_product, has_filed, slot_of, default_line, bid_on}
use Rattle.rules.specs.Legal.{is_open}
use Rattle.rules.proofs.Lists.{list_at}
use Rattle.rules.proofs.Tests.{told}
use Rattle.rules.specs.Stands.{Stands, Accepted}
use Rattle.rules.proofs.Judged.{judged_take, accepted_ext}
use Rattle.laws.proofs.Default.{default_accepted}

module _ (a : Auction) (S : Stands a) (o : is_open a ≡ true) (b : ℕ) (hb : b < a.terms.bidders) where
  bids_by : (t : Bool) → has_filed a b ≡ t
      → Accepted a.terms.products (ticked a) (cap_of (setup a)) (price_at a) (before_at a) (record_of a b)
      (λ p. cond t (get_or a.cards.lines (place b p) no_line) (default_line (ticked a p) (before_at a p) (record_of a b p))) (free_of a b)
  bids_by true e =
      let L = S.limits in
      let x = rw e at (S.slots b (omega arith)) in
      accepted_ext _ _ _ _ _ _ (on_product (slot_of a b)) _ _ (λ p h. list_at (λ p. get_or a.cards.lines (place b p) no_line) no_line 8 p (omega arith))
      (judged_take a b (slot_of a b) (search told))
  bids_by false e = default_accepted a S o b hb

  -- the bid of each bidder passes 8 to 13
  pub bids_accepted : Accepted a.terms.products (ticked a) (cap_of (setup a)) (price_at a) (before_at a) (record_of a b) (bid_on a b) (free_of a b)
  bids_accepted = bids_by (has_filed a b) refl
