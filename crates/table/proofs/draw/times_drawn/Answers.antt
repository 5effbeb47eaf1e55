use mathlib.Core.Bool.{Bool}
use mathlib.Core.List.{List}
use mathlib.Core.Path.{◌≡◌, refl, sym, ◌∙◌, ap}
use Prim.Native.Nat.{ℕ, zero, suc, ◌+◌, ◌≤◌}
use native.Mathlib.Numerals.{add-one}
use native.Mathlib.Omega.{arith}
use borrow.Author.Rules.{rules}
use borrow.Author.Tests.{tests}
use lib.Dec.{eqb}
use lib.ListN.{length, take}
use lib.Seq.{take_all}
use Rattle.std.specs.Prelude.{count_by}
use Rattle.std.proofs.lemmas.Iterator.{YieldsList-from_slice}
use Rattle.std.proofs.lemmas.Iterator.Consumers.{YieldsList-from_filter, count_from_yields_List}
use Rattle.std.proofs.lemmas.List.Sums.{length-filter, sum_by_more}
use Rattle.rules.specs.Count.{sum_up_to}
use Rattle.rules.specs.Bid.{one_if}
use Rattle.rules.specs.Round.{drawn}
use Rattle.table.proofs.draw.times_drawn.Goals as goal

-- those of a list that pass, place by place
placed : (test : ℕ → Bool) (xs : List ℕ) (k : ℕ) → k ≤ length xs → count_by test (take k xs) ≡ sum_up_to (λ i. one_if (test (drawn xs i))) k
placed test xs zero l = refl
placed test xs (suc k) l =
    ap (λ n. count_by test (take n xs)) (sym (add-one k)) ∙ sum_by_more (λ x. one_if (test x)) xs k 0 (omega arith)
    ∙ ap (λ n. n + one_if (test (drawn xs k))) (placed test xs k (omega arith))

pub returns : goal.returns
returns c =
    let s = c.args.order.now in
    let test : ℕ → Bool = λ x. eqb x c.args.b in
    count_from_yields_List _ _ c.count.ensures.ran (YieldsList-from_filter _ test (YieldsList-from_slice s cc) c.filter.ensures.closure (λ x r q k. search (rules, tests)))
    ∙ length-filter test s ∙ ap (count_by test) (sym (take_all (length s) s (omega arith))) ∙ placed test s (length s) (omega arith)
