use Rattle.asked.specs.Asked.{settings_asked}
use Rattle.asked.proofs.opening.settings_of.Goals as goal

pub returns : goal.returns
unfolding settings_asked
returns c =
    let b = c in
    rw (
      c.two_bytes.ensures,
      c.rows_of-row.ensures,
      b.bidders_of-eligibility.ensures,
      b.products_of-product.ensures,
      b.number-priced.ensures.0,
    )
