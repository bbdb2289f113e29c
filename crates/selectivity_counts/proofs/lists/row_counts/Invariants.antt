use Rattle.std.proofs.Common.{◌≡◌, ◌≤◌, length, take}
use Rattle.std.specs.Prelude.{All}
use Rattle.csv_tables.specs.declared.table.TheConstants.{ROW_LIMIT}
use Rattle.selectivity_counts.proofs.WidePlaces.{counts_of}
use Rattle.selectivity_counts.proofs.lists.row_counts.Given as goal

-- the counts of the tables so far
abbrev pub invariant-loop-table : goal.invariant-loop-table
invariant-loop-table l = record {
  value : l.counts.items ≡ counts_of (take l.table-index l.tables);
  few : All (λ table. length table.value.rows ≤ ROW_LIMIT) (take l.table-index l.tables);
}
