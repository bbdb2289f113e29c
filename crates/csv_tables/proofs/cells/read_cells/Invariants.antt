use Rattle.std.proofs.Common.{◌≡◌, ◌+◌, ◌++◌, length}
use Rattle.std.specs.List.{flat_map, list_all}
use Rattle.csv_tables.specs.Cells.{are_cells, values_from}
use Rattle.csv_tables.proofs.cells.read_cells.Given as goal

-- the rows that are left decide
abbrev pub invariant-loop : goal.invariant-loop
invariant-loop l = record {
  pushed : l.cells.items ++ flat_map (values_from 0 l.columns) l.records
      ≡ flat_map (values_from 0 l.columns) l.fn.records;
  fit : list_all (are_cells 0 l.columns) l.records ≡ list_all (are_cells 0 l.columns) l.fn.records;
  count : l.counter + length l.records ≡ l.row_count;
}
