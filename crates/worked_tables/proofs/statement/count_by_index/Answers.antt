use Rattle.std.proofs.Common.{sym}
use Rattle.worked_tables.proofs.statement.count_by_index.Goals as goal

pub count-requires : goal.count-requires
count-requires c =
    c.requires.built c.args.pred.now.at.place c.args.pred.now.at.column c.in_ok-table.table.now c.in_ok-index.index.now
    (sym c.in_ok-table.ensures) (sym c.in_ok-index.ensures)
