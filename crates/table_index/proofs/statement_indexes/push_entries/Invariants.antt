use Rattle.std.proofs.Common.{◌≡◌, ◌++◌, map}
use Rattle.row_values.specs.RowNumbers.{row_numbers}
use Rattle.table_index.specs.StatementIndexes.{indexes_in, wanted_entry}
use Rattle.table_index.proofs.statement_indexes.push_entries.Given as goal

abbrev pub invariant-loop-column : goal.invariant-loop-column
invariant-loop-column l =
    indexes_in l.entries.items
    ≡ indexes_in l.fn.entries.items ++ map (wanted_entry l.wanted l.table l.place) (row_numbers l.column)
