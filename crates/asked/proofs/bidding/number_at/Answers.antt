use Rattle.asked.proofs.Grouping.{is_number, is_large, is_other, is_end_lem}
use Rattle.asked.proofs.bidding.number_at.Goals as goal

pub returns-in-Number : goal.returns-in-Number
returns-in-Number c = search is_number

pub returns-in-TooLarge : goal.returns-in-TooLarge
returns-in-TooLarge c = search is_large

pub returns-in-NotANumber : goal.returns-in-NotANumber
returns-in-NotANumber c = search is_other

pub returns-in-End : goal.returns-in-End
returns-in-End c = search is_end_lem
