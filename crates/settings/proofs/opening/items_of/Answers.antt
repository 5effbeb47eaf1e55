use Prim.Native.Nat.{ℕ}
use borrow.Author.Rules.{rules}
use borrow.Author.Tests.{tests}
use Rattle.rules.specs.declared.Item.{Item}
use Rattle.rules.specs.Settings.{no_product}
use Rattle.rules.specs.Settings.{item_of, product_at}
use Rattle.rules.proofs.Lists.{list_is}
use Rattle.settings.proofs.opening.items_of.Goals as goal

pub returns : goal.returns
returns c =
    let f : ℕ → Item = λ p. item_of (product_at c.args.s p) in
    let h = c.map.ensures.items in
    list_is f (f 0) 8 c.map.result h.long (λ i l. let k = h.at i no_product (f 0) l in search (rules, tests))
