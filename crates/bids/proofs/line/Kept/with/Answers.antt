use Rattle.bids.proofs.line.Kept.with.Goals as goal

pub returns : goal.returns
returns c =
    let kept = c in
    let fit = kept in
    let withdrawn = fit in
    let rises = withdrawn in
    rw (
      rises.reduction-reduced.ensures.0,
      rises.increase-rises.ensures.0,
      withdrawn.total-withdrawn.ensures.0,
      fit.exits_fit-fit.ensures,
      fit.amount.ensures,
      fit.amount-2.ensures,
      kept.total-retained.ensures.0,
    )
