use borrow.Author.Rules.{rules}
use borrow.Author.Tests.{tests}
use Rattle.asked.specs.Asked.{target_at, cap_at, revised_asked}
use Rattle.rules.proofs.Made.{made}
use Rattle.asked.proofs.cutting.revised_of.Goals as goal

pub returns : goal.returns
unfolding revised_asked
returns c =
    let targets = made (target_at c.args.numbers) 8 (λ x y q l k. search (rules, tests)) c.from_fn-targets.ensures.items in
    let caps = made (cap_at c.args.numbers) 8 (λ x y q l k. search (rules, tests)) c.from_fn-caps.ensures.items in
    rw (targets, caps)
