use Rattle.std.proofs.Common.{◌≡◌, ◌++◌, drop}
use Rattle.csv.specs.Records.{fields_of}
use Rattle.csv_tables.specs.Cells.{are_cells, values_from}
use Rattle.csv_tables.proofs.cells.push_row.Given as goal

-- the columns that are left decide
abbrev pub invariant-loop-column : goal.invariant-loop-column
invariant-loop-column l = record {
  pushed : l.cells.items ++ values_from l.column (drop l.column l.columns) (fields_of l.row)
      ≡ l.fn.cells.items ++ values_from 0 l.columns (fields_of l.row);
  fits : are_cells l.column (drop l.column l.columns) (fields_of l.row) ≡ are_cells 0 l.columns (fields_of l.row);
}
