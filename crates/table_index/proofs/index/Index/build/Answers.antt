use Rattle.table_index.proofs.OneList.{ordered_is}
use Rattle.table_index.proofs.index.Index.build.Goals as goal

pub returns-clause-rows : goal.returns-clause-rows
returns-clause-rows c =
    ordered_is c.args.t.now c.args.column c.in_ok-rows.rows.items (rw c.from.ensures at c.in_ok-rows.ensures)
