use Rattle.csv_tables.proofs.PackedCells.{AreRead}
use Rattle.csv_tables.proofs.packed.pack_column.Given as goal

-- the numbers so far are the cells of the rows so far
abbrev pub invariant-loop-row : goal.invariant-loop-row
invariant-loop-row l = AreRead l.cells l.width l.column l.row l.numbers.items
