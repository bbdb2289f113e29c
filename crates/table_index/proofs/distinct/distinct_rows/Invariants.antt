use Rattle.std.proofs.Common.{◌≡◌, ◌≤◌, take}
use Rattle.table_index.specs.Distinct.{cells_of, distinct_count, is_same_cell}
use Rattle.table_index.proofs.distinct.distinct_rows.Given as goal

-- the distinct ones so far are counted
abbrev pub invariant-loop-position : goal.invariant-loop-position
invariant-loop-position l = record {
  counted : l.count ≡ distinct_count is_same_cell (take l.position (cells_of l.t l.column l.rows));
  few : l.count ≤ l.position;
}
