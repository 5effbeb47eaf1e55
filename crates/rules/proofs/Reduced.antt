-- The reduced book of a cutback, number by number. Assumes nothing.
use mathlib.Core.Path.{◌≡◌, refl, sym, ◌∙◌, ap}
use mathlib.Core.Bool.{true}
use mathlib.Core.List.{List}
use Prim.Native.Nat.{ℕ, ◌+◌, ◌*◌, ◌%◌, ◌≤◌, ◌<◌}
use native.Mathlib.Omega.{arith}
use borrow.Author.Tests.{lt-ltb, le-ltb}
use lib.ListN.{get_or}
use Rattle.rules.specs.declared.Tranches.{Tranches}
use Rattle.rules.specs.declared.Setup.{Setup}
use Rattle.rules.specs.declared.Auction.{Auction}
use Rattle.rules.specs.Parts.{no_lane, lane_at, limited, with_limits, unmarked, with_free}
use Rattle.rules.specs.Settings.{setup, item, no_item, item_in, target_of, cap_of, start_of}
use Rattle.rules.specs.Held.{nothing, record_at, set_to, free_of}
use Rattle.rules.specs.Bid.{record_of, price_at, before_at, mark_at}
use Rattle.rules.specs.Cutback.{given_for, numbers_fit, may_cut, revised, cut_from, free_cut, reduced}
use Rattle.rules.specs.Stands.{Stands}
use Rattle.rules.proofs.Lists.{all_take, list_at, list_ext}
use Rattle.rules.proofs.Tests.{told}
use Rattle.rules.proofs.Parts.{start_is, price_anew, before_anew, mark_stays, prices_setup, mark_anew, marks_setup, free_anew, free_setup}

-- ---- the revised settings, whatever the numbers

module _ (t : Setup) (targets caps : List Tranches) (p : ℕ) (h : p < 8) where
  item_is : get_or (revised t targets caps).item p no_item ≡ item (given_for targets p) (given_for caps p) (start_of t p)
  unfolding revised
  item_is = list_at (λ p. item (given_for targets p) (given_for caps p) (start_of t p)) no_item 8 p h

  pub revised_target : target_of (revised t targets caps) p ≡ given_for targets p
  revised_target = ap (λ i. i.target.0) item_is

  pub revised_cap : cap_of (revised t targets caps) p ≡ given_for caps p
  revised_cap = ap (λ i. i.cap.0) item_is

  pub revised_start : start_of (revised t targets caps) p ≡ start_of t p
  revised_start = ap (λ i. i.start) item_is

limits_setup : (a : Auction) (targets caps : List Tranches)
    → setup (with_limits a (given_for targets) (given_for caps)) ≡ revised (setup a) targets caps
unfolding revised
limits_setup a targets caps =
    let e = list_ext (λ p. item_in (lane_at (with_limits a (given_for targets) (given_for caps)) p))
    (λ p. item (given_for targets p) (given_for caps p) (start_of (setup a) p)) 8
    (λ p h. ap item_in (list_at (λ p. limited (lane_at a p) (given_for targets p) (given_for caps p)) no_lane 8 p h)
    ∙ ap (item (given_for targets p) (given_for caps p)) (sym (start_is a p h))) in
    rw e refl

module _ (a : Auction) (targets caps : List Tranches) where
  abbrev m : ℕ
  m = a.terms.products

  abbrev n : ℕ
  n = a.terms.bidders

  abbrev t : Setup
  t = revised (setup a) targets caps

  abbrev z : Auction
  z = reduced a targets caps

  -- ---- the reduced book, whatever the numbers

  pub record_is : (k : ℕ) → k < 256 → record_at z.records k ≡ set_to (record_at a.records k) (given_for caps (k % 8))
  unfolding reduced
  record_is k h = list_at (λ k. set_to (record_at a.records k) (given_for caps (k % 8))) nothing 256 k h

  pub record_of_lem : (b p : ℕ) → b < 32 → p < 8 → record_of z b p ≡ set_to (record_of a b p) (given_for caps p)
  record_of_lem b p hb hp =
      let e : (b * 8 + p) % 8 ≡ p = omega arith in
      record_is (b * 8 + p) (omega arith) ∙ ap (λ q. set_to (record_of a b p) (given_for caps q)) e

  pub free_is : (b : ℕ) → b < 32 → free_of z b ≡ free_of a b + cut_from a caps b
  unfolding reduced
  free_is b h = let x : free_of z b ≡ free_cut a caps b = free_anew a (free_cut a caps) b h in omega arith

  abbrev limits_cut : Auction
  limits_cut = with_limits (with_free a (free_cut a caps)) (given_for targets) (given_for caps)

  abbrev dropped : Auction
  dropped = unmarked limits_cut

  pub price_is : (p : ℕ) → p < 8 → price_at z p ≡ start_of (setup a) p
  unfolding reduced
  price_is p h = price_anew dropped (start_of (setup a)) (start_of (setup a)) p h

  pub before_is : (p : ℕ) → p < 8 → before_at z p ≡ start_of (setup a) p
  unfolding reduced
  before_is p h = before_anew dropped (start_of (setup a)) (start_of (setup a)) p h

  pub mark_is : (p : ℕ) → p < 8 → mark_at z p ≡ 0
  unfolding reduced
  mark_is p h = mark_stays dropped (start_of (setup a)) (start_of (setup a)) p h ∙ mark_anew limits_cut (λ p. 0) p h

  -- its settings are the revised ones
  pub reduced_setup : setup (reduced a targets caps) ≡ revised (setup a) targets caps
  unfolding reduced
  reduced_setup =
      prices_setup dropped (start_of (setup a)) (start_of (setup a)) ∙ marks_setup limits_cut (λ p. 0)
      ∙ limits_setup (with_free a (free_cut a caps)) targets caps
      ∙ ap (λ u. revised u targets caps) (free_setup a (free_cut a caps))

  -- ---- of a standing state that may be cut back

  module _ (S : Stands a) (may : may_cut a targets caps ≡ true) where
    pub fit : (p : ℕ) → p < 8 → numbers_fit (setup a) targets caps p ≡ true
    fit = all_take (numbers_fit (setup a) targets caps) 8 (search told)

    -- "none larger than before and none 0, targets still ranked, caps at most targets"
    pub cut_numbers : (p : ℕ) → p < a.terms.products
        → (1 ≤ given_for targets p) × (given_for targets p ≤ target_of (setup a) p) × (1 ≤ given_for caps p)
        × (given_for caps p ≤ cap_of (setup a) p) × (given_for caps p ≤ given_for targets p)
    cut_numbers p h = let x = rw (lt-ltb p m h) at (fit p (omega (arith, S.limits.products))) in search told

    pub cut_past : (p : ℕ) → m ≤ p → p < 8 → (given_for targets p ≡ 0) × (given_for caps p ≡ 0)
    cut_past p h l = let x = rw (le-ltb p m h) at (fit p l) in search told
