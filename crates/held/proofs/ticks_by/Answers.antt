use mathlib.Core.Path.{◌∙◌, ap}
use borrow.Author.Rules.{rules}
use borrow.Author.Tests.{tests}
use lib.Dec.{eqb}
use mir.Val.{bool_byte}
use Rattle.rules.specs.Held.{ticked}
use Rattle.rules.specs.Layout.{loaded}
use Rattle.rules.proofs.Lists.{list_at}
use Rattle.rules.proofs.Made.{made}
use Rattle.held.proofs.Found.{one_is}
use Rattle.held.specs.Ticks.{is_one}
use Rattle.held.proofs.ticks_by.Goals as goal

pub returns : goal.returns
returns c =
    let h = c.from_fn.ensures.items in
    let a = loaded c.args.s.now in
    (h.long, λ p l. ap (λ x. is_one x p) (made (λ p. bool_byte (ticked a p)) 8 (λ p y q l k. search (rules, tests)) h) ∙ ap (λ x. eqb x 1) (list_at _ 0 8 p l) ∙ one_is _)
