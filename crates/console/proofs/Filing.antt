-- A card filed, or refused by the state, by itself or by the auction. Assumes nothing.
use mathlib.Core.Path.{◌≡◌, refl, sym, ◌∙◌, ap}
use mathlib.Core.Bool.{cond}
use mathlib.Core.List.{List}
use Prim.Native.Nat.{ℕ}
use borrow.Author.Tests.{eq-eqb, ne_eqb}
use lib.Dec.{eqb}
use Rattle.std.specs.Prelude.{Err}
use Rattle.rules.specs.declared.Refusal.{Refusal}
use Rattle.rules.specs.Answers.{Leaves, Answer, answer_from}
use Rattle.rules.specs.Layout.{loaded, stored}
use Rattle.rules.specs.Calls.{card_number, file_number, after_card, file_call}
use Rattle.rules.proofs.Numbered.{rejected, passed_on}
use Rattle.filing.specs.Filing.{Files}
use Rattle.numbers.specs.State.{state_number}
use Rattle.numbers.proofs.StateLaws.{Stood, not_standing, said}
use Rattle.console.proofs.Answering.{refuses}

module _ (s c : List ℕ) where
  pub state_refused : {e : Refusal} → Err e ≡ answer_from (state_number s) → Leaves (file_call s c) (Err e) s
  unfolding file_call
  state_refused h =
      refuses (file_number s c) _ s
      (passed_on tt tt _ _ h (not_standing s 3 (card_number c) (rejected tt _ h) (λ z. refl)))

  module _ (S : Stood s) where
    pub card_answered : (r : Answer) (z : List ℕ) → Files s c r z → Leaves (file_call s c) r z
    unfolding file_call
    card_answered r z F =
        let e : card_number c (loaded s) ≡ file_number s c = said s S 3 (card_number c) _ refl in
        (F.answer ∙ ap answer_from e, F.bytes ∙ ap (λ n. cond (eqb n 0) (stored (after_card c (loaded s))) s) e)
