use Rattle.table_index.proofs.ColumnCells.{distinct_of_rows}
use Rattle.table_index.proofs.index.Index.distinct.Goals as goal

pub returns : goal.returns
returns c =
    let each = rw (← c.self.view_is) at c.requires.rows_are.each_once in
    rw (c.distinct_rows.ensures, c.from-column.ensures, c.as_slice.ensures.value, ← c.self.view_is)
    (distinct_of_rows c.args.t.now c.self.inside.column c.self.inside.rows.items each)
