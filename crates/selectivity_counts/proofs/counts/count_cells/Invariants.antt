use Rattle.std.proofs.Common.{◌≡◌, ◌≤◌, take}
use Rattle.statement_meaning.specs.Vectors.{matching}
use Rattle.selectivity_counts.proofs.counts.count_cells.Given as goal

-- the rows so far are counted
abbrev pub invariant-loop-row : goal.invariant-loop-row
invariant-loop-row l = record {
  value : l.count ≡ matching l.args l.pred (take l.row l.table.rows);
  few : l.count ≤ l.row;
}
