use Rattle.report_items.proofs.WrittenHeads.{too_large_read}
use Rattle.report_items.proofs.laws.lines_of_too_many_rows_are_read.Goals as goal

pub returns : goal.returns
returns c = λ line one. too_large_read line one
