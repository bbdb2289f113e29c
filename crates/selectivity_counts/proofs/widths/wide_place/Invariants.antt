use Rattle.std.proofs.Common.{◌≡◌, ◌≤◌, drop}
use Rattle.csv_tables.specs.StatementTables.{rows_in, tables_in}
use Rattle.statement_statistics.specs.Statistics.{first_above, first_wide}
use Rattle.selectivity_counts.specs.declared.widths.TheConstants.{SIZE_LIMIT}
use Rattle.selectivity_counts.proofs.WidePlaces.{counts_of}
use Rattle.selectivity_counts.proofs.widths.wide_place.Given as goal

-- the places that are left go on from the product so far
abbrev pub invariant-loop-place : goal.invariant-loop-place
invariant-loop-place l = record {
  some : 1 ≤ l.size;
  within : l.size ≤ SIZE_LIMIT;
  left : first_above SIZE_LIMIT l.q.preds l.place l.size (counts_of (drop l.place l.tables))
      ≡ first_wide l.q (rows_in (tables_in l.tables));
}
