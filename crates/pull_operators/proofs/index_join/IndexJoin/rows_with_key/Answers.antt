use Rattle.std.proofs.Common.{sym}
use Rattle.pull_operators.proofs.RowsFound.{none_found}
use Rattle.pull_operators.proofs.index_join.IndexJoin.rows_with_key.Goals as goal

pub returns-in-None : goal.returns-in-None
returns-in-None c =
    sym (none_found c.args.self.now c.args.combo.now (rw (c.row-row.ensures, c.from.ensures) at (sym c.in-None.ensures)))
