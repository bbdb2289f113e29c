use Rattle.row_values.proofs.TotalOrders.{same_kind}
use Rattle.statement_meaning.proofs.laws.order_of_values.Goals as goal

pub returns : goal.returns
returns c = same_kind
