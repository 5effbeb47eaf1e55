-- Document 02, request 10: document 01's chain by the plain engine, in both orders, computed over the definitions. Assumes nothing.
use Rattle.std.specs.Prelude.{◌≡◌, refl, List, [], ◌∷◌, ℕ, ◌%◌, replicate, Some}
use Rattle.rules.specs.Price.{Override}
use Rattle.rules.specs.declared.Auction.{Auction}
use Rattle.rules.specs.Count.{all_up_to, from, list_of}
use Rattle.rules.specs.Units.{points}
use Rattle.rules.specs.Answers.{first_number}
use Rattle.rules.specs.Bits.{set_in}
use Rattle.rules.specs.Lots.{first_used, last_used, in_order, exits_fit}
use Rattle.rules.specs.Settings.{setup, target_of}
use Rattle.rules.specs.Held.{ticked}
use Rattle.rules.specs.Accept.{accepted_all}
use Rattle.rules.specs.Keep.{kept}
use Rattle.rules.specs.Outbid.{deemed_up_to, outbid_loop}
use Rattle.rules.specs.Plain.{keep_many, visits, passes}
use Rattle.rules.specs.Round.{drawn, not_chosen, calculated_plain}
use Rattle.rules.specs.Calls.{with_card, round_number, order_number}
use Rattle.starred.specs.Cases.{line, b, card, filed, figures, t1, chain, draw}

-- setting T, round 2, with the chain's cards
abbrev chained : Auction
chained = filed t1 (card (b 0) (line 2 0 0 1)) (card (line 0 1 990 0) (line 0 1 990 0)) (card (b 0) (line 0 2 980 0))

-- the tranches kept after each of the first visits, pass after pass through an order of the two products
abbrev kept_after : List ℕ → ℕ → List ℕ
kept_after order n =
    list_of (λ i. (visits 2 3 (target_of (setup chained)) (ticked chained) (drawn (draw 0 1 2)) (λ j. drawn order (j % 2)) (kept (accepted_all chained) 0) i).count)
    n

abbrev over : List Override
over = Some (points 1001) ∷ replicate 7 not_chosen

pub data Row : Type 0 where
  -- an order, and what is kept before the first visit and after each
  by : List ℕ → List ℕ → Row
  -- a draw, overrides, an order, and the number
  refused : List ℕ → List Override → List ℕ → ℕ → Row

unfoldable pub Shown : Row → Type 0
Shown (by order counts) = (kept_after order 7 ≡ counts) × (calculated_plain chained (draw 0 1 2) [] order ≡ figures chain 3 0)
Shown (refused d os order n) = first_number (round_number d os chained) (order_number order chained) ≡ n

unfoldable pub AllShown : List Row → Type 0
AllShown [] = Unit {0}
AllShown (r ∷ rs) = Shown r × AllShown rs

unfoldable pub orders : List Row
orders =
    -- two are kept on product 0, of which the denied switch leaves product 1 short by one; the second pass keeps nothing
    by (0 ∷ 1 ∷ []) (0 ∷ 2 ∷ 3 ∷ 3 ∷ 3 ∷ 3 ∷ 3 ∷ [])
    -- product 1 lacks nothing at first, so that it takes a second pass
    ∷ by (1 ∷ 0 ∷ []) (0 ∷ 0 ∷ 2 ∷ 3 ∷ 3 ∷ 3 ∷ 3 ∷ [])
    -- 23: a product missing, twice, unknown; too many; none
    ∷ refused (draw 0 1 2) [] (0 ∷ []) 23
    ∷ refused (draw 0 1 2) [] (0 ∷ 0 ∷ []) 23
    ∷ refused (draw 0 1 2) [] (0 ∷ 2 ∷ []) 23
    ∷ refused (draw 0 1 2) [] (0 ∷ 1 ∷ 2 ∷ []) 23
    ∷ refused (draw 0 1 2) [] [] 23
    -- 14 and 19 before 23
    ∷ refused (draw 0 1 1) over (0 ∷ 0 ∷ []) 14
    ∷ refused (draw 0 1 2) over (0 ∷ 0 ∷ []) 19
    ∷ refused (draw 0 1 2) over (0 ∷ 1 ∷ []) 19
    ∷ refused (draw 0 1 2) [] (1 ∷ 0 ∷ []) 0
    ∷ []

-- every row is as it says
pub orders_hold : AllShown orders
unfolding Shown AllShown orders all_up_to from set_in first_used last_used in_order exits_fit keep_many visits passes deemed_up_to outbid_loop calculated_plain with_card
orders_hold = ((refl, refl), ((refl, refl), (refl, (refl, (refl, (refl, (refl, (refl, (refl, (refl, (refl, tt)))))))))))
