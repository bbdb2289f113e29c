use Rattle.statement_meaning.proofs.FullOrders.{one_sort}
use Rattle.statement_meaning.proofs.laws.one_sort_is_stable.Goals as goal

pub returns : goal.returns
returns c = one_sort
