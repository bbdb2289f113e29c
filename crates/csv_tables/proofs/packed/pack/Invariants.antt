use Rattle.std.proofs.Common.{map}
use Rattle.csv_tables.specs.Tables.{table_of_cells}
use Rattle.csv_tables.proofs.PackedColumns.{ArePackedSoFar}
use Rattle.csv_tables.proofs.packed.pack.Given as goal

-- the columns so far are packed
abbrev pub invariant-loop-column : goal.invariant-loop-column
invariant-loop-column l =
    ArePackedSoFar (table_of_cells l.schema l.row_count l.cells) l.column
    (map (λ numbers. numbers.items) l.packed.items)
