use Rattle.report_items.proofs.WrittenHeads.{opened_read}
use Rattle.report_items.proofs.laws.heads_of_openings_are_read.Goals as goal

pub returns : goal.returns
returns c = λ line number cursor name one two h k. opened_read line number cursor name one two h k
