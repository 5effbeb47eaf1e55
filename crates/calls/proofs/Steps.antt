-- One call and no more, and the lines of a run. Assumes nothing.
use mathlib.Core.Path.{◌≡◌, refl, ◌∙◌, ap}
use mathlib.Core.Logic.{inl, inr}
use mathlib.Core.List.{List, [], ◌∷◌, ◌++◌}
use Prim.Native.Nat.{ℕ}
use lib.ListN.{length}
use Rattle.rules.specs.Price.{Override}
use Rattle.rules.specs.declared.Settings.{Settings}
use Rattle.rules.specs.declared.Tranches.{Tranches}
use Rattle.rules.specs.Calls.{open_call, file_call, calculate_call, plain_call, cutback_call, return_call}
use Rattle.rules.specs.Uses.{opens, files, calculates, calculates_plain, cuts, called, returned, used, Called, Reached}
use Rattle.calls.specs.Lines.{open_word, file_word, bid_word, calculate_word, cutback_word, return_word, Made, Left, first_word, Step, Steps, Served, NoUndo}

module _ (s t : List ℕ) where
  pub opened : (x : Settings) → length x.eligibility ≡ 32 → length x.row ≡ 8 → t ≡ (open_call s x).bytes → Made open_word s t
  opened x i r e = inr (called (opens x) (i, r), (refl, e))

  pub filed : (card : List ℕ) → t ≡ (file_call s card).bytes → Made file_word s t
  filed card e = inr (called (files card) tt, (inl refl, e))

  pub bid : (card : List ℕ) → t ≡ (file_call s card).bytes → Made bid_word s t
  bid card e = inr (called (files card) tt, (inr refl, e))

  pub calculated : (draw : List ℕ) (os : List Override) → t ≡ (calculate_call s draw os).bytes → Made calculate_word s t
  calculated draw os e = inr (called (calculates draw os) tt, (refl, e))

  pub calculated_plain_lem : (draw : List ℕ) (os : List Override) (order : List ℕ) → t ≡ (plain_call s draw os order).bytes → Made calculate_word s t
  calculated_plain_lem draw os order e = inr (called (calculates_plain draw os order) tt, (refl, e))

  pub cut : (targets caps : List Tranches) → t ≡ (cutback_call s targets caps).bytes → Made cutback_word s t
  cut targets caps e = inr (called (cuts targets caps) tt, (refl, e))

  pub returned_once : t ≡ (return_call s).bytes → Made return_word s t
  returned_once e = inr (returned, (refl, e))

-- it is one call of the console or a return, or none
pub one_call : (w s t : List ℕ) → Made w s t → Called s t
one_call w s t (inl e) = inl e
one_call w s t (inr (u, (n, e))) = inr (u, e)

-- a run without a line, of one line, and of one after the other
pub stays : (s : List ℕ) → Served s s
stays s = ([], refl)

pub once : (line s t : List ℕ) → Left (first_word line) s t → Served s t
once line s t h = (record { line = line; state = t } ∷ [], (h, refl))

onward_from : (xs ys : List Step) (s t z : List ℕ) → Steps s xs t → Steps t ys z → Steps s (xs ++ ys) z
onward_from [] ys s t z e h = rw (← e) h
onward_from (x ∷ xs) ys s t z (h, k) l = (h, onward_from xs ys x.state t z k l)

pub onward : (s t z : List ℕ) → Served s t → Served t z → Served s z
onward s t z (xs, h) (ys, k) = (xs ++ ys, onward_from xs ys s t z h k)

-- Without an `undo` a run leaves what calls and returns of the console, one after the other, leave.
made_first : (w s z t : List ℕ) → Made w s z → Reached z t → Reached s t
made_first w s z t (inl e) (us, f) = (us, f ∙ ap (λ r. used r us) e)
made_first w s z t (inr (called c h, (n, e))) (us, f) = (called c h ∷ us, f ∙ ap (λ r. used r us) e)
made_first w s z t (inr (returned, (n, e))) (us, f) = (returned ∷ us, f ∙ ap (λ r. used r us) e)

pub calls_only : (xs : List Step) (s t : List ℕ) → NoUndo xs → Steps s xs t → Reached s t
calls_only [] s t n e = ([], e)
calls_only (x ∷ xs) s t (n, ns) (inl h, k) = made_first (first_word x.line) s x.state t h (calls_only xs x.state t ns k)
calls_only (x ∷ xs) s t (n, ns) (inr e, k) = absurd (n e)
