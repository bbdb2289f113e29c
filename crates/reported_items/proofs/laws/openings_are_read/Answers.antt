use Rattle.reported_items.proofs.ToldExecutions.{opened_items}
use Rattle.reported_items.proofs.laws.openings_are_read.Goals as goal

pub returns : goal.returns
returns c = λ line cursor e is name one plain. opened_items line cursor e is name one plain
