-- What a draw order that fits gives: its length, entries in range, every bidder found, none twice. Assumes nothing.
use mathlib.Core.Path.{◌≡◌, refl, sym, ◌∙◌, ap}
use mathlib.Core.Bool.{Bool, true, false, ◌&&◌}
use mathlib.Core.List.{List}
use Prim.Native.Nat.{ℕ, ◌≤◌, ◌<◌}
use native.Mathlib.Omega.{arith}
use borrow.Author.Tests.{eqb-true, eqb-false, eq-eqb, ne_eqb, ltb-true, lt-ltb}
use lib.ListN.{length}
use lib.Dec.{eqb, ltb}
use Rattle.std.specs.Prelude.{Option, None, Some, is_some}
use Rattle.rules.specs.Count.{sum_up_to, all_up_to, first_up_to, never}
use Rattle.rules.specs.Bid.{one_if}
use Rattle.rules.specs.Round.{drawn, draw_fits}
use Rattle.rules.proofs.Sums.{sum_ext, sum_zero, sum_ge, sum_one, sum_two, sum_swap, sum_tight, and_left, and_right, best_found, best_none}
use Rattle.rules.proofs.Lists.{clash, both, all_take, all_give}

module _ (n : ℕ) (order : List ℕ) (D : draw_fits n order ≡ true) where
  abbrev found : ℕ → Option ℕ
  found b = first_up_to (λ i. eqb (drawn order i) b) n

  parts : (all_up_to (λ i. ltb (drawn order i) n) n && all_up_to (λ b. is_some (first_up_to (λ i. eqb (drawn order i) b) n)) n) ≡ true
  parts = and_right (eqb (length order) n) _ D

  -- as many as the bidders
  pub draw_long : length order ≡ n
  draw_long = eqb-true (length order) n (and_left (eqb (length order) n) _ D)

  -- each a bidder
  pub draw_range : (i : ℕ) → i < n → drawn order i < n
  draw_range i l =
      ltb-true (drawn order i) n
      (all_take (λ i. ltb (drawn order i) n) n (and_left (all_up_to (λ i. ltb (drawn order i) n) n) _ parts) i l)

  reach_by : (b : ℕ) (q : Option ℕ) → found b ≡ q → is_some q ≡ true → (i : ℕ) × (i < n) × (drawn order i ≡ b)
  reach_by b (Some i) e t =
      let f = best_found (λ i. eqb (drawn order i) b) never n i e in
      (i, f.0, eqb-true (drawn order i) b f.1)
  reach_by b None e t = clash t refl

  -- every bidder somewhere
  pub draw_reach : (b : ℕ) → b < n → (i : ℕ) × (i < n) × (drawn order i ≡ b)
  draw_reach b l =
      reach_by b (found b) refl
      (all_take (λ b. is_some (found b)) n (and_right (all_up_to (λ i. ltb (drawn order i) n) n) _ parts) b l)

  -- how often bidder b is drawn
  abbrev times : ℕ → ℕ
  times b = sum_up_to (λ i. one_if (eqb (drawn order i) b)) n

  -- one bidder at each place
  one_each : (i : ℕ) → i < n → sum_up_to (λ b. one_if (eqb (drawn order i) b)) n ≡ 1
  one_each i l =
      let x = drawn order i in
      let s = sum_one (λ b. one_if (eqb x b)) (λ b. 0) x n (draw_range i l) (λ b _ d. ap one_if (ne_eqb x b (λ e. d (sym e)))) in
      omega (arith, sum_zero n, ap one_if (eq-eqb x x refl))

  -- as many places as bidders, and every bidder at one at least: at no more
  times_most : (b : ℕ) → b < n → times b ≤ 1
  times_most =
      sum_tight (λ b. 1) times n
      (λ b l. let r = draw_reach b l in
      omega (arith, sum_ge (λ i. one_if (eqb (drawn order i) b)) n r.0 r.1, ap one_if (eq-eqb (drawn order r.0) b r.2)))
      (sym (sum_ext _ (λ i. 1) n one_each) ∙ sum_swap (λ i b. one_if (eqb (drawn order i) b)) n n)

  -- "each once": no bidder stands at two places
  pub draw_once : (i j : ℕ) → i < n → j < n → drawn order i ≡ drawn order j → i ≡ j
  draw_once i j li lj e = by (eqb i j) refl
    where
      by : (t : Bool) → eqb i j ≡ t → i ≡ j
      by true f = eqb-true i j f
      by false f =
          let s = sum_two (λ k. one_if (eqb (drawn order k) (drawn order i))) n i j li lj (eqb-false i j f) in
          let x = ap one_if (eq-eqb (drawn order i) (drawn order i) refl) in
          let y = ap one_if (eq-eqb (drawn order j) (drawn order i) (sym e)) in
          absurd (let z : ⊥ = omega (arith, times_most (drawn order i) (draw_range i li)) in z)

-- such an order fits: nothing else is asked of it
pub draw_fits_lem : (n : ℕ) (order : List ℕ) → length order ≡ n → ((i : ℕ) → i < n → drawn order i < n)
    → ((b : ℕ) → b < n → (i : ℕ) × (i < n) × (drawn order i ≡ b)) → draw_fits n order ≡ true
draw_fits_lem n order long range reach =
    both (eq-eqb (length order) n long)
    (both (all_give (λ i. ltb (drawn order i) n) n (λ i l. lt-ltb (drawn order i) n (range i l)))
    (all_give (λ b. is_some (found b)) n (λ b l. by b (reach b l) (found b) refl)))
  where
    found : ℕ → Option ℕ
    found b = first_up_to (λ i. eqb (drawn order i) b) n

    by : (b : ℕ) → (i : ℕ) × (i < n) × (drawn order i ≡ b) → (q : Option ℕ) → found b ≡ q → is_some q ≡ true
    by b r (Some i) e = refl
    by b r None e =
        clash (eq-eqb (drawn order r.0) b r.2) (best_none (λ i. eqb (drawn order i) b) never n e r.0 r.1)
