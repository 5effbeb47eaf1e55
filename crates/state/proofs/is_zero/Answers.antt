use mathlib.Core.Bool.{Bool, ◌&&◌}
use mathlib.Core.List.{List}
use mathlib.Core.Path.{◌≡◌, refl, sym, ◌∙◌, ap}
use Prim.Native.Nat.{ℕ, zero, suc, ◌≤◌}
use native.Mathlib.Numerals.{add-one}
use native.Mathlib.Omega.{arith}
use borrow.Author.Rules.{rules}
use borrow.Author.Tests.{tests}
use lib.Dec.{eqb}
use lib.ListN.{length, take, get_or}
use lib.Seq.{take_all}
use Rattle.std.specs.List.{list_all}
use Rattle.std.proofs.lemmas.Iterator.{YieldsList-from_slice}
use Rattle.std.proofs.lemmas.Iterator.Search.{all_from_yields_List}
use Rattle.std.proofs.lemmas.List.Folds.{list_all_more}
use Rattle.rules.specs.Count.{all_up_to}
use Rattle.state.proofs.is_zero.Goals as goal

-- all of a list, place by place
placed : (test : ℕ → Bool) (xs : List ℕ) (k : ℕ) → k ≤ length xs → list_all test (take k xs) ≡ all_up_to (λ i. test (get_or xs i 0)) k
unfolding all_up_to
placed test xs zero l = refl
placed test xs (suc k) l =
    ap (λ n. list_all test (take n xs)) (sym (add-one k)) ∙ list_all_more test xs k 0 (omega arith)
    ∙ ap (λ t. t && test (get_or xs k 0)) (placed test xs k (omega arith))

pub returns : goal.returns
returns c =
    let s = c.args.s.now in
    all_from_yields_List (λ x. eqb x 0) _ _ _ c.all.ensures.ran (YieldsList-from_slice s (cc (take_all (length s) s (omega arith)))) (λ x b q k. search (rules, tests))
    ∙ ap (list_all (λ x. eqb x 0)) (sym (take_all (length s) s (omega arith))) ∙ placed (λ x. eqb x 0) s (length s) (omega arith)
