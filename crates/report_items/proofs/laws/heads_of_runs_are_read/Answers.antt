use Rattle.report_items.proofs.WrittenHeads.{ran_read}
use Rattle.report_items.proofs.laws.heads_of_runs_are_read.Goals as goal

pub returns : goal.returns
returns c = λ line number name one two h. ran_read line number name one two h
