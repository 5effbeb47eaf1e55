use Rattle.asked.proofs.Grouping.{one_lot_lem, large_lot, typed_lots, missing_lots}
use Rattle.asked.proofs.bidding.leaving_at.Goals as goal

pub returns-in-Number : goal.returns-in-Number
returns-in-Number c = search one_lot_lem

pub returns-in-TooLarge : goal.returns-in-TooLarge
returns-in-TooLarge c = search large_lot

pub returns-in-NotANumber : goal.returns-in-NotANumber
returns-in-NotANumber c = search typed_lots

pub returns-in-End : goal.returns-in-End
returns-in-End c = search missing_lots
