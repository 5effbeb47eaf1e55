-- The book that steps 1 to 4 leave. Assumes nothing.
use mathlib.Core.Path.{◌≡◌, refl, sym, ◌∙◌, ap, subst}
use mathlib.Core.Bool.{Bool, true, false, ◌&&◌, not}
use mathlib.Core.List.{List}
use Prim.Native.Nat.{ℕ, ◌+◌, ◌*◌, ◌%◌, ◌≤◌, ◌<◌}
use native.Mathlib.Omega.{arith}
use borrow.Author.Tests.{lt-ltb}
use lib.ListN.{length, replicate, length-replicate, get_or-replicate}
use lib.Dec.{ltb}
use Rattle.rules.specs.declared.Line.{Line}
use Rattle.rules.specs.declared.Record.{Record}
use Rattle.rules.specs.declared.Place.{Place}
use Rattle.rules.specs.declared.Kept.{Kept}
use Rattle.rules.specs.declared.Outbid.{Outbid}
use Rattle.rules.specs.declared.Auction.{Auction}
use Rattle.rules.specs.Count.{sum_up_to}
use Rattle.rules.specs.Units.{tranches}
use Rattle.rules.specs.Settings.{setup, target_of, cap_of}
use Rattle.rules.specs.Lots.{total, Ordered, ExitsFit, Beginning, AllWithin}
use Rattle.rules.specs.Held.{going_in, denied_in, retained_in, held_in, kept_in, held, standing, above, ticked, free_of}
use Rattle.rules.specs.Bid.{bid_in, withdrawn_in, reduction, increase, record_of, price_at, before_at, bid_on}
use Rattle.rules.specs.Accept.{place_at, accepted_all, held_of, kept_of, moving_of, rise_of, column, row_of, every}
use Rattle.rules.specs.Outbid.{outbid, deemed_up_to}
use Rattle.rules.specs.Round.{drawn, draw_fits, after_step2, after_step4}
use Rattle.rules.specs.Legal.{kept_on, is_open}
use Rattle.rules.proofs.Sums.{sum_ext, sum_le, sum_six, sum_ge, sum_add, sum_zero}
use Rattle.rules.proofs.Lists.{clash}
use Rattle.rules.proofs.LotLaws.{zero_none, none_left, none_exit, beginning_starts, beginning_within, beginning_ordered, within_exits}
use Rattle.rules.proofs.Signed.{above_true, above_false}
use Rattle.rules.proofs.Tests.{told}
use Rattle.rules.proofs.Legal.{first_none}
use Rattle.rules.specs.Stands.{Stands, Long}
use Rattle.rules.proofs.Places.{going_of, denied_of, retained_of, worth_of}
use Rattle.rules.proofs.Keep.{Moved, Ended, kept_all_ends, kept_met}
use Rattle.laws.proofs.Outbidding.{free_at, Deemed, deemed_each, deemed_long, deemed_not, Outed, OutEnded, out_ends}
use Rattle.laws.proofs.Made.{AllAccepted, Made, Bare, NoRecord, made, made_bare, none_kept, keepable}
use Rattle.laws.proofs.Draw.{draw_range, draw_reach}

-- the book o that steps 1 to 4 leave of an auction a
pub record Booked (a : Auction) (o : Outbid) : Type 0 where
  pub long_free : length o.free ≡ 32
  pub filled : (p x : ℕ) → p < a.terms.products → x ≤ target_of (setup a) p → x ≤ held a.records a.terms.bidders p
      → x ≤ column held_of o.places p a.terms.bidders
  pub kept : (p : ℕ) → p < a.terms.products → 0 < column kept_of o.places p a.terms.bidders
      → (price_at a p < before_at a p) × (column held_of o.places p a.terms.bidders ≡ target_of (setup a) p)
  pub first : a.round ≡ 1 → (p : ℕ) → p < a.terms.products → column kept_of o.places p a.terms.bidders ≡ 0
  pub exits : (b p : ℕ) → b < a.terms.bidders → p < a.terms.products
      → ExitsFit (price_at a p) (before_at a p) (place_at o.places (b * 8 + p)).holds.retained
  pub caps : (b p : ℕ) → b < a.terms.bidders → p < a.terms.products → held_of (place_at o.places (b * 8 + p)) ≤ cap_of (setup a) p
  pub bare : (b p : ℕ) → b < 32 → p < 8 → (b < a.terms.bidders → a.terms.products ≤ p)
      → NoRecord (place_at o.places (b * 8 + p)).holds
  pub worth : (b : ℕ) → b < a.terms.bidders
      → row_of worth_of o.places b a.terms.products + free_at o.free b
      ≡ sum_up_to (λ p. bid_in (bid_on a b p) + denied_in (record_of a b p)) a.terms.products
  pub eligible : (b : ℕ) → b < a.terms.bidders
      → row_of held_of o.places b a.terms.products + free_at o.free b
      ≤ sum_up_to (λ p. held_in (record_of a b p)) a.terms.products + free_of a b
  pub no_free : (b : ℕ) → a.terms.bidders ≤ b → b < 32 → free_at o.free b ≡ 0

-- one place through the steps: its record and bid, as accepted, after steps 2, 3 and 4
pub record Trail (r : Record) (l : Line) (x y z w : Place) : Type 0 where
  pub made : Made r l x
  pub moved : Moved x y
  pub deemed : Deemed y z
  pub outed : Outed z w
  pub withdrawn : withdrawn_in l ≤ reduction r l

-- step 2 on a product that did not tick: increases are cancelled, and nothing else
pub record Untouched (r : Record) (y : Place) : Type 0 where
  pub going : going_in r ≤ going_of y
  pub denied : denied_of y ≡ denied_in r
  pub retained : retained_of y ≡ retained_in r
  pub lots : y.holds.retained ≡ r.retained

untouched : (r : Record) (l : Line) (x y z w : Place) → Trail r l x y z w → going_in r ≤ bid_in l → Untouched r y
untouched r l x y z w T h = record {
  going = omega arith;
  denied = omega arith;
  retained = omega arith;
  lots = T.moved.same (omega arith) ∙ T.made.lots;
}

-- a bare place stays bare through the steps
bare_on : (x y z w : Place) → Moved x y → Deemed y z → Outed z w → Bare x → NoRecord w.holds
bare_on x y z w M D O B =
    let e = D.lots ∙ M.same (omega arith) ∙ B.lots in
    record {
      going = omega arith;
      denied = omega arith;
      retained = omega arith;
      lots = none_left w.holds.retained (O.order (subst Ordered (sym e) (none_exit 0 0).order)) (omega arith);
    }

module _ (a : Auction) (draw : List ℕ) where
  abbrev m : ℕ
  m = a.terms.products

  abbrev n : ℕ
  n = a.terms.bidders

  abbrev goal : ℕ → ℕ
  goal = target_of (setup a)

  abbrev l0 : List Place
  l0 = accepted_all a

  abbrev k : Kept
  k = after_step2 a draw

  abbrev l2 : List Place
  l2 = k.places

  abbrev l3 : List Place
  l3 = deemed_up_to (ticked a) l2 (n * 8)

  abbrev o : Outbid
  o = after_step4 a draw l2

  abbrev l4 : List Place
  l4 = o.places

  module _ (S : Stands a) (L : Long a) (op : is_open a ≡ true) (D : draw_fits a.terms.bidders draw ≡ true) (A : AllAccepted a) where
    hm : m ≤ 8
    hm = S.limits.products

    hn : n ≤ 32
    hn = S.limits.bidders

    -- after step 2
    pub kept_end : Ended a.terms.products a.terms.bidders (target_of (setup a)) (ticked a) (accepted_all a) 0 (after_step2 a draw)
    kept_end =
        kept_all_ends m n goal (ticked a) (drawn draw) hm (draw_range n draw D) (draw_reach n draw D) l0 (keepable a S A)

    -- after step 3
    pub deem_end : (j : ℕ) → Deemed (place_at (after_step2 a draw).places j)
        (place_at (deemed_up_to (ticked a) (after_step2 a draw).places (a.terms.bidders * 8)) j)
    deem_end = deemed_each (ticked a) l2 (n * 8) kept_end.keepable.long

    -- after step 4
    pub out_end : OutEnded a.terms.products a.terms.bidders (target_of (setup a)) (ticked a)
        (outbid (deemed_up_to (ticked a) (after_step2 a draw).places (a.terms.bidders * 8)) (replicate 32 (tranches 0)) 0)
        (after_step4 a draw (after_step2 a draw).places)
    out_end =
        let x = deemed_long (ticked a) l2 (n * 8) in
        out_ends m n goal (ticked a) (drawn draw) hm (draw_range n draw D) (draw_reach n draw D) (every kept_of l3 n)
        (outbid l3 (replicate 32 (tranches 0)) 0)
        (omega (arith, kept_end.keepable.long)) (omega (arith, hn, length-replicate 32 (tranches 0))) (omega arith)

    -- step 3 leaves what is held as it is
    held_deemed : (p : ℕ) → column held_of l3 p n ≡ column held_of l2 p n
    held_deemed p = sum_ext _ _ n (λ b _. omega (arith, deem_end (b * 8 + p)))

    module _ (b p : ℕ) (hb : b < a.terms.bidders) (hp : p < a.terms.products) where
      -- the place of bidder b on product p through the steps
      pub trail : Trail (record_of a b p) (bid_on a b p) (place_at (accepted_all a) (b * 8 + p)) (place_at (after_step2 a draw).places (b * 8 + p))
          (place_at (deemed_up_to (ticked a) (after_step2 a draw).places (a.terms.bidders * 8)) (b * 8 + p))
          (place_at (after_step4 a draw (after_step2 a draw).places).places (b * 8 + p))
      trail = record {
        made = made a b p (omega (arith, hn)) (omega (arith, hm));
        moved = kept_end.moved (b * 8 + p);
        deemed = deem_end (b * 8 + p);
        outed = out_end.outed (b * 8 + p);
        withdrawn = (A b hb).withdrawn p hp;
      }

      -- where the product did not tick
      pub unticked : ticked a p ≡ false → Untouched (record_of a b p) (place_at (after_step2 a draw).places (b * 8 + p))
      unticked f = untouched _ _ _ _ _ _ trail ((A b hb).ticks p hp f)

      -- where it did, nothing was kept before
      pub fresh : ticked a p ≡ true → kept_in (record_of a b p) ≡ 0
      fresh t = let x = sum_ge (λ b. kept_in (record_of a b p)) n b hb in omega (arith, none_kept a S p hp t)

      -- "each bidder within product caps"
      booked_caps : held_of (place_at l4 (b * 8 + p)) ≤ cap_of (setup a) p
      booked_caps = omega (arith, trail, (A b hb).caps p hp, S.caps b p hb hp)

      -- where it ticked, what step 2 retains is a beginning of the bid's lots,
      pub kept_begins : ticked a p ≡ true
          → Beginning (bid_on a b p).withdrawn (place_at (after_step2 a draw).places (b * 8 + p)).leaving
          (place_at (after_step2 a draw).places (b * 8 + p)).holds.retained
      kept_begins t =
          let T = trail in
          T.moved.lots (bid_on a b p).withdrawn
          (rw (T.made.leaves, T.made.lots)
          (beginning_starts (bid_on a b p).withdrawn (record_of a b p).retained (S.exits b p hb hp).order (omega (arith, fresh t))))

      -- and steps 3 and 4 leave it so
      same_ticked : ticked a p ≡ true → place_at l4 (b * 8 + p) ≡ place_at l2 (b * 8 + p)
      same_ticked t =
          let z : (b * 8 + p) % 8 ≡ p = omega (arith, hm) in
          let e = ap (ticked a) z ∙ t in
          out_end.same (b * 8 + p) e ∙ deemed_not (ticked a) l2 (n * 8) kept_end.keepable.long (b * 8 + p) e

      pub booked_begins : ticked a p ≡ true
          → Beginning (bid_on a b p).withdrawn (place_at (after_step2 a draw).places (b * 8 + p)).leaving
          (place_at (after_step4 a draw (after_step2 a draw).places).places (b * 8 + p)).holds.retained
      booked_begins t = rw (same_ticked t) (kept_begins t)

      -- where it did not tick, the lots are within the record's
      pub booked_within : ticked a p ≡ false
          → AllWithin (record_of a b p).retained (place_at (after_step4 a draw (after_step2 a draw).places).places (b * 8 + p)).holds.retained
      booked_within t =
          let T = trail in
          subst (λ l. AllWithin l (place_at l4 (b * 8 + p)).holds.retained) (T.deemed.lots ∙ (unticked t).lots) T.outed.lots

      -- what is retained has exit prices above p and at most q: this bid's where the product ticked, the old ones elsewhere
      booked_exits : (s : Bool) → ticked a p ≡ s → ExitsFit (price_at a p) (before_at a p) (place_at l4 (b * 8 + p)).holds.retained
      booked_exits true t =
          let E = (A b hb).exits p hp in
          let K = booked_begins t in
          within_exits _ _ _ _ E (beginning_within _ _ _ K) (beginning_ordered _ _ _ E.order K)
      booked_exits false t =
          let T = trail in
          let E = S.exits b p hb hp in
          within_exits _ _ _ _ E (booked_within t) (T.outed.order (subst Ordered (sym (T.deemed.lots ∙ (unticked t).lots)) E.order))

    -- the filled part of no product falls
    filled_by : (p x : ℕ) → p < m → x ≤ goal p → x ≤ held a.records n p → (s : Bool) → ticked a p ≡ s → x ≤ column held_of l4 p n
    filled_by p x hp g h true e =
        let y = (kept_met m n goal (ticked a) l0 0 k kept_end p hp e).0 in
        omega (arith, out_end.still p hp e, held_deemed p)
    filled_by p x hp g h false e =
        let y = sum_le (λ b. held_in (record_of a b p)) (λ b. held_of (place_at l2 (b * 8 + p))) n (λ b hb. omega (arith, unticked b p hb hp e)) in
        out_end.floor p x hp g (omega (arith, held_deemed p))

    -- on a product that ticked what is kept stays kept
    pub kept_ticked : (p : ℕ) → p < a.terms.products → ticked a p ≡ true
        → column kept_of (after_step4 a draw (after_step2 a draw).places).places p a.terms.bidders
        ≡ column kept_of (after_step2 a draw).places p a.terms.bidders
    kept_ticked p hp e =
        out_end.still_kept p hp e
        ∙ sum_ext _ _ n (λ b _. let z : (b * 8 + p) % 8 ≡ p = omega (arith, hm) in
        ap kept_of (deemed_not (ticked a) l2 (n * 8) kept_end.keepable.long (b * 8 + p) (ap (ticked a) z ∙ e)))

    over_false : (s u v : Bool) → s ≡ false → v ≡ true → (not s && (u && v)) ≡ false → u ≡ false
    over_false true u v e f g = clash refl e
    over_false false true true e f g = g
    over_false false true false e f g = clash f refl
    over_false false false v e f g = refl

    -- on a product that did not tick no more is kept than before
    kept_less : (p : ℕ) → p < m → ticked a p ≡ false → column kept_of l4 p n ≤ kept_on a p
    kept_less p hp e = sum_le _ _ n (λ b hb. omega (arith, trail b p hb hp, unticked b p hb hp e))

    -- before round 1 nothing was held, so that it ticked nowhere and keeps nothing
    first_by : a.round ≡ 1 → (p : ℕ) → p < m → (s : Bool) → ticked a p ≡ s → column kept_of l4 p n ≡ 0
    first_by r p hp s e =
        let no : (b : ℕ) → b < n → held_in (record_of a b p) ≡ 0 = λ b hb.
        let z = first_none a S op r (b * 8 + p) (omega (arith, hm, hn)) in
        let g : going_in (record_of a b p) ≡ 0 = search told in
        let d : denied_in (record_of a b p) ≡ 0 = search told in
        let t = ap total (zero_none (record_of a b p).retained (search told)) in
        omega arith in
        let h = sum_ext (λ b. held_in (record_of a b p)) (λ b. 0) n no in
        let k = sum_ext (λ b. kept_in (record_of a b p)) (λ b. 0) n (λ b hb. omega (arith, no b hb)) in
        by s e h k
      where
        by : (s : Bool) → ticked a p ≡ s → held a.records n p ≡ sum_up_to (λ b. 0) n → kept_on a p ≡ sum_up_to (λ b. 0) n
            → column kept_of l4 p n ≡ 0
        by true e h k = absurd (let x : ⊥ = omega (arith, above_true (held a.records n p) (goal p) e, sum_zero n) in x)
        by false e h k = omega (arith, kept_less p hp e, sum_zero n)

    -- kept tranches only where held equals target, and where the price has fallen
    kept_by : (p : ℕ) → p < m → 0 < column kept_of l4 p n → (s : Bool) → ticked a p ≡ s
        → (price_at a p < before_at a p) × (column held_of l4 p n ≡ goal p)
    kept_by p hp h true e =
        let x = (kept_met m n goal (ticked a) l0 0 k kept_end p hp e).1 (omega (arith, kept_ticked p hp e)) in
        (S.fell p hp op (above_true (held a.records n p) (goal p) e), out_end.still p hp e ∙ held_deemed p ∙ x)
    kept_by p hp h false e =
        let y = S.kept p hp (omega (arith, kept_less p hp e)) in
        let low = filled_by p (goal p) hp (omega arith) (omega (arith, y)) false e in
        let up = above_false (column held_of l4 p n) (goal p) (
        over_false (ticked a p) (above (standing (column held_of l4 p n) (goal p))) (ltb 0 (column kept_of l4 p n)) e
        (lt-ltb 0 (column kept_of l4 p n) h) (out_end.none p hp)) in
        (y.0, omega arith)

    -- g + d and f of a bidder are what it bid and had denied
    booked_worth : (b : ℕ) → b < n
        → row_of worth_of l4 b m + free_at o.free b ≡ sum_up_to (λ p. bid_in (bid_on a b p) + denied_in (record_of a b p)) m
    booked_worth b hb =
        let z = ap (λ f. f.0) (get_or-replicate 32 b (tranches 0) (tranches 0) (omega (arith, hn))) in
        let w3 = sum_ext (λ p. worth_of (place_at l3 (b * 8 + p))) (λ p. worth_of (place_at l2 (b * 8 + p))) m (λ p _. (deem_end (b * 8 + p)).worth) in
        let w2 = sum_six (λ p. worth_of (place_at l2 (b * 8 + p))) (λ p. rise_of (place_at l0 (b * 8 + p))) (λ p. moving_of (place_at l2 (b * 8 + p)))
        (λ p. worth_of (place_at l0 (b * 8 + p))) (λ p. rise_of (place_at l2 (b * 8 + p))) (λ p. moving_of (place_at l0 (b * 8 + p))) m
        (λ p _. omega (arith, kept_end.moved (b * 8 + p))) in
        let w1 = sum_ext (λ p. worth_of (place_at l0 (b * 8 + p))) (λ p. bid_in (bid_on a b p) + denied_in (record_of a b p)) m
        (λ p hp. omega (arith, trail b p hb hp)) in
        omega (arith, out_end.worth b, kept_end.owed b)

    -- all that a bidder holds, with f, never grows
    booked_eligible : (b : ℕ) → b < n
        → row_of held_of l4 b m + free_at o.free b ≤ sum_up_to (λ p. held_in (record_of a b p)) m + free_of a b
    booked_eligible b hb =
        let d : ℕ → Line = bid_on a b in
        let r : ℕ → Record = record_of a b in
        let h = sum_le (λ p. held_of (place_at l4 (b * 8 + p))) (λ p. worth_of (place_at l4 (b * 8 + p)) + (withdrawn_in (d p) + retained_in (r p))) m
        (λ p hp. omega (arith, trail b p hb hp)) in
        let h1 = sum_add (λ p. worth_of (place_at l4 (b * 8 + p))) (λ p. withdrawn_in (d p) + retained_in (r p)) m in
        let h2 = sum_add (λ p. withdrawn_in (d p)) (λ p. retained_in (r p)) m in
        let h3 = sum_add (λ p. bid_in (d p)) (λ p. denied_in (r p)) m in
        let h4 = sum_add (λ p. going_in (r p) + denied_in (r p)) (λ p. retained_in (r p)) m in
        let h5 = sum_add (λ p. going_in (r p)) (λ p. denied_in (r p)) m in
        let h6 = sum_six (λ p. bid_in (d p)) (λ p. reduction (r p) (d p)) (λ p. 0)
        (λ p. going_in (r p)) (λ p. increase (r p) (d p)) (λ p. 0) m (λ p _. omega arith) in
        omega (arith, booked_worth b hb, (A b hb).total)

    -- past the bidders and products in use nothing is held, and past the bidders no f
    bare_at : (b p : ℕ) → b < 32 → p < 8 → (b < n → m ≤ p) → NoRecord (place_at l4 (b * 8 + p)).holds
    bare_at b p hb hp out =
        bare_on _ _ _ _ (kept_end.moved (b * 8 + p)) (deem_end (b * 8 + p)) (out_end.outed (b * 8 + p)) (made_bare a S b p hb hp out)

    no_free : (b : ℕ) → n ≤ b → b < 32 → free_at o.free b ≡ 0
    no_free b h hb =
        let z = ap (λ f. f.0) (get_or-replicate 32 b (tranches 0) (tranches 0) hb) in
        let w = sum_ext (λ p. worth_of (place_at l3 (b * 8 + p))) (λ p. 0) m (λ p hp.
        omega (arith, kept_end.moved (b * 8 + p), deem_end (b * 8 + p), made_bare a S b p hb (omega (arith, hm)) (λ l. omega arith))) in
        omega (arith, out_end.worth b, sum_zero m)

    -- all of it
    pub booked : Booked a (after_step4 a draw (after_step2 a draw).places)
    booked = record {
      long_free = out_end.long_free ∙ length-replicate 32 (tranches 0);
      filled = λ p x hp g h. filled_by p x hp g h (ticked a p) refl;
      kept = λ p hp h. kept_by p hp h (ticked a p) refl;
      first = λ r p hp. first_by r p hp (ticked a p) refl;
      exits = λ b p hb hp. booked_exits b p hb hp (ticked a p) refl;
      caps = booked_caps;
      bare = bare_at;
      worth = booked_worth;
      eligible = booked_eligible;
      no_free = no_free;
    }
