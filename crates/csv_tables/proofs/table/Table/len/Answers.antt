use Rattle.std.proofs.Common.{sym}
use Rattle.csv_tables.proofs.Rows.{length-rows_of}
use Rattle.csv_tables.proofs.table.Table.len.Goals as goal

pub returns-clause-value : goal.returns-clause-value
returns-clause-value c =
    rw (← c.self.view_is) (sym (length-rows_of c.self.inside.row_count _ c.self.inside.cells.items))
