use mathlib.Core.Path.{◌≡◌, ◌∙◌, refl, sym, ap}
use native.Mathlib.Omega.{arith}
use borrow.Author.Rules.{rules}
use Rattle.std.specs.Prelude.{Ok, Err}
use Rattle.rules.specs.Answers.{answer_or}
use Rattle.rules.specs.Layout.{loaded}
use Rattle.rules.specs.Calls.{open_number_of, count_call, to_file}
use Rattle.rules.proofs.Numbered.{accepted, passed_on}
use Rattle.numbers.proofs.StateLaws.{stood_by}
use Rattle.console.proofs.Counting.{counted_few, counted}
use Rattle.console.proofs.Fitting.{few}
use Rattle.console.proofs.count.Goals as goal

pub returns-in_err-count_number : goal.returns-in_err-count_number
unfolding count_call
returns-in_err-count_number c =
    let e = c.in_err-count_number in
    let r : c.from_residual.result ≡ Err e.field-0.0 = search rules in
    r ∙ passed_on tt _ _ _ e.ensures refl

pub bidders-requires : goal.bidders-requires
bidders-requires c = (stood_by _ 3 open_number_of (omega arith) (accepted tt _ c.in_ok-count_number.ensures)).0.long

pub filed-requires : goal.filed-requires
filed-requires c = (stood_by _ 3 open_number_of (omega arith) (accepted tt _ c.in_ok-count_number.ensures)).0.long

pub overflow_sub-result : goal.overflow_sub-result
overflow_sub-result c =
    counted_few (loaded c.args.s.now) _ _ (omega arith) (omega arith)
    (few _ (stood_by _ 3 open_number_of (omega arith) (accepted tt _ c.in_ok-count_number.ensures)).0 (record { small = λ i. (c.type_inv.s i).fits }))

pub returns : goal.returns
unfolding count_call
returns c =
    ap Ok (counted (loaded c.args.s.now) _ _ (omega arith) (omega arith))
    ∙ ap (λ n. answer_or n (to_file (loaded c.args.s.now))) (sym (accepted tt _ c.in_ok-count_number.ensures))
