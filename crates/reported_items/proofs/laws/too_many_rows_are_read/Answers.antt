use Rattle.reported_items.proofs.ToldExecutions.{large_items}
use Rattle.reported_items.proofs.laws.too_many_rows_are_read.Goals as goal

pub returns : goal.returns
returns c = λ line is. large_items line is
