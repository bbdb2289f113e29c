use Rattle.std.proofs.Common.{◌≡◌, ◌≤◌, [], filter, length, take}
use Rattle.statement_meaning.specs.Conditions.{row_passes}
use Rattle.statement_statistics.specs.Statistics.{fixed_preds}
use Rattle.selectivity_counts.proofs.fixed.fixed_count.Given as goal

-- the rows so far are counted
abbrev pub invariant-loop-row : goal.invariant-loop-row
invariant-loop-row l = record {
  value : l.count ≡ length (filter (row_passes [] (fixed_preds l.preds) l.place) (take l.row l.table.rows));
  few : l.count ≤ l.row;
}
