use Rattle.statement_meaning.proofs.Groups.{shape_by_order}
use Rattle.statement_meaning.proofs.laws.plain_rows_in_order.Goals as goal

pub returns : goal.returns
returns c = shape_by_order
