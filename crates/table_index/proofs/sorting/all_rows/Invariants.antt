use Rattle.std.proofs.Common.{◌≡◌}
use Rattle.row_values.specs.RowNumbers.{row_numbers}
use Rattle.table_index.proofs.sorting.all_rows.Given as goal

abbrev pub invariant-loop-row : goal.invariant-loop-row
invariant-loop-row l = l.rows.items ≡ row_numbers l.row
