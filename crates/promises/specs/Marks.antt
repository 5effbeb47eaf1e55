-- Document 02, request 1: whose decrement a price was last worked out by, told from the calls and their inputs and from what is held, and
-- from no mark. Assumes nothing.
use Rattle.std.specs.Prelude.{Bool, false, ◌&&◌, cond, List, [], ◌∷◌, ℕ, get_or, eqb}
use Rattle.rules.specs.declared.Auction.{Auction}
use Rattle.rules.specs.Units.{going_price}
use Rattle.rules.specs.Held.{ticked}
use Rattle.rules.specs.Price.{Override, is_given}
use Rattle.rules.specs.Round.{override_for}
use Rattle.rules.specs.Layout.{loaded}
use Rattle.rules.specs.Legal.{is_open}
use Rattle.rules.specs.Calls.{calculate_number, plain_number, cutback_number, report_call}
use Rattle.rules.specs.Uses.{Call, opens, files, counts, calculates, calculates_plain, cuts, reports, results, reads, writes, suggests, after}

-- the working-out of product p's price in a calculation that leaves z: by the manager's decrement where one was given, the auction goes on
-- and the product is above target
abbrev pub uses_managers : Auction → Override → ℕ → Bool
uses_managers z o p = is_open z && (ticked z p && is_given o)

-- whether the last working-out of product p's price used the manager's decrement, after the call c on the state s, where t says whether the one before
-- it did: an accepted calculation works every price out anew, and so does an accepted cutback, "overrides and their marks dropped"
abbrev pub managers_after : List ℕ → Call → ℕ → Bool → Bool
managers_after s (opens x) p t = t
managers_after s (files c) p t = t
managers_after s counts p t = t
managers_after s (calculates draw os) p t =
    cond (eqb (calculate_number s draw os) 0) (uses_managers (loaded (after s (calculates draw os))) (override_for os p) p) t
managers_after s (calculates_plain draw os order) p t =
    cond (eqb (plain_number s draw os order) 0) (uses_managers (loaded (after s (calculates_plain draw os order))) (override_for os p) p) t
managers_after s (cuts targets caps) p t = cond (eqb (cutback_number s targets caps) 0) false t
managers_after s (reports b) p t = t
managers_after s results p t = t
managers_after s (reads c n) p t = t
managers_after s (writes room n b r ls) p t = t
managers_after s (suggests bid ratio) p t = t

-- after the calls cs, where t says whether the last one before them did
abbrev pub managers_from : List ℕ → List Call → ℕ → Bool → Bool
managers_from s [] p t = t
managers_from s (c ∷ cs) p t = managers_from (after s c) cs p (managers_after s c p t)

-- after the calls that follow an opening, whose prices nothing was worked out by
abbrev pub by_managers : List ℕ → List Call → ℕ → Bool
by_managers s cs p = managers_from s cs p false

-- what a report to bidder b says of product p: "whether it was overridden"
abbrev pub reported_mark : List ℕ → ℕ → ℕ → Bool
reported_mark s b p = (get_or (report_call s b).prices p (going_price 0 0 false)).overridden
