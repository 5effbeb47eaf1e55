-- Laws of the parts of the state: the settings in it, and what a part anew leaves of them. Assumes nothing.
use mathlib.Core.Path.{◌≡◌, refl, ap, ap₂, ◌∙◌}
use mathlib.Core.List.{List}
use Prim.Native.Nat.{ℕ, ◌+◌, ◌<◌}
use lib.ListN.{get_or}
use Rattle.rules.specs.declared.Record.{Record}
use Rattle.rules.specs.declared.Seat.{Seat}
use Rattle.rules.specs.declared.Auction.{Auction}
use Rattle.rules.specs.declared.Setup.{Setup}
use Rattle.rules.specs.Count.{sum_up_to}
use Rattle.rules.specs.Units.{tranches}
use Rattle.rules.specs.Parts.{no_lane, lane_at, priced, marked, no_seat, seat_at, reseated, with_prices, with_marks, with_free}
use Rattle.rules.specs.Settings.{no_item, item_in, setup, target_of, cap_of, start_of, initial_of}
use Rattle.rules.specs.Held.{held, standing, above_zero, free_of, excess}
use Rattle.rules.specs.Bid.{price_at, before_at, mark_at}
use Rattle.rules.proofs.Lists.{list_at, list_ext}

-- the excess goes by the settings, the records and what is free
abbrev excess_by : Setup → List Record → List Seat → ℕ
excess_by t rs ss =
    sum_up_to (λ p. above_zero (standing (held rs t.terms.bidders p) (target_of t p))) t.terms.products
    + sum_up_to (λ b. (get_or ss b no_seat).free.0) t.terms.bidders

pub excess_same : (a z : Auction) → setup z ≡ setup a → z.records ≡ a.records → z.seats ≡ a.seats → excess z ≡ excess a
excess_same a z e r s =
    ap (λ t. excess_by t z.records z.seats) e
    ∙ ap (λ rs. excess_by (setup a) rs z.seats) r
    ∙ ap (λ ss. excess_by (setup a) a.records ss) s

module _ (a : Auction) where
  -- ---- a setting is that of the lane or of the seat

  item_is : (p : ℕ) → p < 8 → get_or (setup a).item p no_item ≡ item_in (lane_at a p)
  item_is p h = list_at (λ p. item_in (lane_at a p)) no_item 8 p h

  pub target_is : (p : ℕ) → p < 8 → target_of (setup a) p ≡ (lane_at a p).target.0
  target_is p h = ap (λ i. i.target.0) (item_is p h)

  pub cap_is : (p : ℕ) → p < 8 → cap_of (setup a) p ≡ (lane_at a p).cap.0
  cap_is p h = ap (λ i. i.cap.0) (item_is p h)

  pub start_is : (p : ℕ) → p < 8 → start_of (setup a) p ≡ (lane_at a p).start
  start_is p h = ap (λ i. i.start) (item_is p h)

  pub initial_is : (b : ℕ) → b < 32 → initial_of (setup a) b ≡ (seat_at a b).initial.0
  initial_is b h = ap (λ x. x.0) (list_at (λ b. (seat_at a b).initial) (tranches 0) 32 b h)

  -- ---- every product at other prices

  module _ (x y : ℕ → ℕ) where
    at : (p : ℕ) → p < 8 → lane_at (with_prices a x y) p ≡ priced (lane_at a p) (x p) (y p)
    at p h = list_at (λ p. priced (lane_at a p) (x p) (y p)) no_lane 8 p h

    pub price_anew : (p : ℕ) → p < 8 → price_at (with_prices a x y) p ≡ x p
    price_anew p h = ap (λ l. l.price) (at p h)

    pub before_anew : (p : ℕ) → p < 8 → before_at (with_prices a x y) p ≡ y p
    before_anew p h = ap (λ l. l.before) (at p h)

    pub mark_stays : (p : ℕ) → p < 8 → mark_at (with_prices a x y) p ≡ mark_at a p
    mark_stays p h = ap (λ l. l.mark) (at p h)

    -- the same prices, product by product
    pub prices_ext : (u v : ℕ → ℕ) → ((p : ℕ) → p < 8 → x p ≡ u p) → ((p : ℕ) → p < 8 → y p ≡ v p)
        → (with_prices a x y).lanes ≡ (with_prices a u v).lanes
    prices_ext u v e f = list_ext _ _ 8 (λ p h. ap₂ (priced (lane_at a p)) (e p h) (f p h))

    -- the settings stay
    pub prices_setup : setup (with_prices a x y) ≡ setup a
    prices_setup =
        let e = list_ext (λ p. item_in (lane_at (with_prices a x y) p)) (λ p. item_in (lane_at a p)) 8 (λ p h. ap item_in (at p h)) in rw e refl

  -- ---- every product with another mark

  module _ (m : ℕ → ℕ) where
    pub marked_at : (p : ℕ) → p < 8 → lane_at (with_marks a m) p ≡ marked (lane_at a p) (m p)
    marked_at p h = list_at (λ p. marked (lane_at a p) (m p)) no_lane 8 p h

    pub mark_anew : (p : ℕ) → p < 8 → mark_at (with_marks a m) p ≡ m p
    mark_anew p h = ap (λ l. l.mark) (marked_at p h)

    pub price_stays : (p : ℕ) → p < 8 → price_at (with_marks a m) p ≡ price_at a p
    price_stays p h = ap (λ l. l.price) (marked_at p h)

    pub before_stays : (p : ℕ) → p < 8 → before_at (with_marks a m) p ≡ before_at a p
    before_stays p h = ap (λ l. l.before) (marked_at p h)

    pub marks_setup : setup (with_marks a m) ≡ setup a
    marks_setup =
        let e = list_ext (λ p. item_in (lane_at (with_marks a m) p)) (λ p. item_in (lane_at a p)) 8 (λ p h. ap item_in (marked_at p h)) in rw e refl

  -- ---- every bidder with other free eligibility

  module _ (f : ℕ → ℕ) where
    seated : (b : ℕ) → b < 32 → seat_at (with_free a f) b ≡ reseated (seat_at a b) (f b)
    seated b h = list_at (λ b. reseated (seat_at a b) (f b)) no_seat 32 b h

    pub free_anew : (b : ℕ) → b < 32 → free_of (with_free a f) b ≡ f b
    free_anew b h = ap (λ s. s.free.0) (seated b h)

    pub free_ext : (g : ℕ → ℕ) → ((b : ℕ) → b < 32 → f b ≡ g b) → (with_free a f).seats ≡ (with_free a g).seats
    free_ext g e = list_ext _ _ 32 (λ b h. ap (reseated (seat_at a b)) (e b h))

    pub free_setup : setup (with_free a f) ≡ setup a
    free_setup =
        let e = list_ext (λ b. (seat_at (with_free a f) b).initial) (λ b. (seat_at a b).initial) 32 (λ b h. ap (λ s. s.initial) (seated b h)) in rw e refl
