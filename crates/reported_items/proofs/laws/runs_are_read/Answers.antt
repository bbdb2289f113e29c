use Rattle.reported_items.proofs.ToldExecutions.{ran_items}
use Rattle.reported_items.proofs.laws.runs_are_read.Goals as goal

pub returns : goal.returns
returns c = λ line e rows is plain h. ran_items line e rows is plain h
