use Rattle.prices.proofs.Laws.{stays}
use Rattle.prices.proofs.next_price.Goals as goal

pub returns-then-over-eq0 : goal.returns-then-over-eq0
returns-then-over-eq0 c = λ held e. stays _ _ held _ _ e c.if-over-eq0.true
