-- `storing::opened` meets its contract: the sections, put together. Assumes nothing.
use Rattle.storing.proofs.Sections.{zero_long, opened_written}
use Rattle.storing.proofs.opened.Goals as goal

pub head-requires : goal.head-requires
head-requires c = zero_long c.requires

pub returns : goal.returns
returns c =
    let c₁ = c in
    let c₂ = c₁ in
    let c₃ = c₂ in
    let c₄ = c₃ in
    let d = c₄ in
    opened_written d.args.t d.requires c₄.head.ensures.0 c₃.products.ensures c₂.bidders.ensures c₁.rows.ensures
