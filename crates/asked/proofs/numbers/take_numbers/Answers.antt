use Rattle.asked.proofs.Typing.{one_more, at_large, at_other, at_end, at_limit, answered}
use mathlib.Core.Path.{◌≡◌, sym, ap, ◌∙◌}
use Rattle.std.specs.declared.result.Result.TheVariants.{Ok}
use Rattle.asked.specs.Typed.{typed}
use native.Mathlib.Omega.{arith}
use borrow.Author.Rules.{rules}
use Rattle.asked.proofs.numbers.take_numbers.Goals as goal

pub loop-k-preserved : goal.loop-k-preserved
loop-k-preserved c = let l = c in let a = l.args in (search rules, sym (one_more a.line.now l.loop-k.at l.loop-k.k l.limit-top.result l.loop-k.numbers _ _ (omega arith) (sym c.take_number.ensures ∙ c.in-Number.is)) ∙ l.loop-k.invariant.1)

pub returns-in-TooLarge : goal.returns-in-TooLarge
returns-in-TooLarge c = let l = c in let a = l.args in answered a.line.now a.c a.n a.most l.limit-top.result a.numbers.now _ _ l.limit-top.ensures.0 l.loop-k.invariant.1 (at_large a.line.now l.loop-k.at l.loop-k.k l.limit-top.result l.loop-k.numbers _ (omega arith) (sym c.take_number.ensures ∙ c.in-TooLarge.is))

pub returns-in-NotANumber : goal.returns-in-NotANumber
returns-in-NotANumber c = let l = c in let a = l.args in answered a.line.now a.c a.n a.most l.limit-top.result a.numbers.now _ _ l.limit-top.ensures.0 l.loop-k.invariant.1 (at_other a.line.now l.loop-k.at l.loop-k.k l.limit-top.result l.loop-k.numbers _ (omega arith) (sym c.take_number.ensures ∙ c.in-NotANumber.is))

pub returns-in-End : goal.returns-in-End
returns-in-End c = let l = c in let a = l.args in answered a.line.now a.c a.n a.most l.limit-top.result a.numbers.now _ _ l.limit-top.ensures.0 l.loop-k.invariant.1 (at_end a.line.now l.loop-k.at l.loop-k.k l.limit-top.result l.loop-k.numbers (omega arith) (sym c.take_number.ensures ∙ c.in-End.is))

pub returns : goal.returns
returns c =
    let l = c in
    let a = l.args in
    let f : c.max.result ≡ l.loop-k.k = c.max.ensures ∙ omega arith in
    answered a.line.now a.c a.n a.most l.limit-top.result a.numbers.now _ _ l.limit-top.ensures.0 l.loop-k.invariant.1
    (at_limit a.line.now l.loop-k.at l.loop-k.k l.limit-top.result l.loop-k.numbers (omega arith) ∙ ap (λ k. typed (Ok (k, l.loop-k.at)) l.loop-k.numbers) (sym f))
