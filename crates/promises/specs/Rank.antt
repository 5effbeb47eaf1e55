-- Document 02, request 10: "whether rank can favour a product when several are short". Assumes nothing.
use Rattle.std.specs.Prelude.{◌≡◌, true, List, [], ◌∷◌, ℕ, ◌<◌}
use Rattle.rules.specs.declared.Place.{Place}
use Rattle.rules.specs.declared.Auction.{Auction}
use Rattle.rules.specs.Settings.{setup, target_of}
use Rattle.rules.specs.Held.{ticked}
use Rattle.rules.specs.Accept.{accepted_all}
use Rattle.rules.specs.Keep.{keep_step}
use Rattle.rules.specs.Plain.{Short, Run, Still}
use Rattle.rules.specs.Round.{drawn, order_fits}
use Rattle.rules.specs.Layout.{loaded}
use Rattle.rules.specs.Uses.{Call, opens, files, counts, calculates, calculates_plain, cuts, reports, results, reads, writes, suggests, after}

-- ---- step 2, however it is made

-- a product of the auction a that is short, with these places
abbrev pub ShortIn : Auction → List Place → ℕ → Type 0
ShortIn a ps p = Short a.terms.products a.terms.bidders (target_of (setup a)) (ticked a) ps p

-- one tranche kept there, by the draw
abbrev pub kept_in : Auction → List ℕ → List Place → ℕ → List Place
kept_in a draw ps p = keep_step a.terms.products a.terms.bidders (drawn draw) ps p

-- from the bids as accepted, k tranches are kept one after another, each on any product that is short just then, until none is; qs are the
-- places at the end
pub record AnyWay (a : Auction) (draw : List ℕ) (k : ℕ) (qs : List Place) : Type 0 where
  pub steps : Run (ShortIn a) (kept_in a draw) (accepted_all a) k qs
  pub ends : Still (ShortIn a) qs

-- ---- a whole auction

-- the call with the box's own engine, where an order was given
abbrev pub by_rank : Call → Call
by_rank (opens x) = opens x
by_rank (files c) = files c
by_rank counts = counts
by_rank (calculates draw os) = calculates draw os
by_rank (calculates_plain draw os order) = calculates draw os
by_rank (cuts targets caps) = cuts targets caps
by_rank (reports b) = reports b
by_rank results = results
by_rank (reads c n) = reads c n
by_rank (writes room n b r ls) = writes room n b r ls
by_rank (suggests bid ratio) = suggests bid ratio

-- an order that is given to the state s holds each product once
abbrev pub Fits : List ℕ → Call → Type 0
Fits s (opens x) = Unit {0}
Fits s (files c) = Unit {0}
Fits s counts = Unit {0}
Fits s (calculates draw os) = Unit {0}
Fits s (calculates_plain draw os order) = order_fits (loaded s).terms.products order ≡ true
Fits s (cuts targets caps) = Unit {0}
Fits s (reports b) = Unit {0}
Fits s results = Unit {0}
Fits s (reads c n) = Unit {0}
Fits s (writes room n b r ls) = Unit {0}
Fits s (suggests bid ratio) = Unit {0}

-- and so each order of a run
abbrev pub AllFit : List ℕ → List Call → Type 0
AllFit s [] = Unit {0}
AllFit s (c ∷ cs) = Fits s c × AllFit (after s c) cs
