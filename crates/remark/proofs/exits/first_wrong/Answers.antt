use Rattle.remark.proofs.LotByLot.{wrong_first, wrong_second, wrong_third, wrong_fourth, none_wrong}
use Rattle.remark.proofs.exits.first_wrong.Goals as goal

pub returns-then-not-leads-exit_fits-clause-found : goal.returns-then-not-leads-exit_fits-clause-found
returns-then-not-leads-exit_fits-clause-found c = search wrong_first

pub returns-then-not-follows-exit_fits-clause-found : goal.returns-then-not-follows-exit_fits-clause-found
returns-then-not-follows-exit_fits-clause-found c = search wrong_second

pub returns-then-not-follows-exit_fits-2-clause-found : goal.returns-then-not-follows-exit_fits-2-clause-found
returns-then-not-follows-exit_fits-2-clause-found c = search wrong_third

pub returns-then-not-follows-exit_fits-3-clause-found : goal.returns-then-not-follows-exit_fits-3-clause-found
returns-then-not-follows-exit_fits-3-clause-found c = search wrong_fourth

pub returns-clause-found : goal.returns-clause-found
returns-clause-found c = search none_wrong
