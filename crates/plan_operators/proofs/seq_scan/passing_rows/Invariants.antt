use Rattle.std.proofs.Common.{◌≡◌}
use Rattle.std.specs.Prelude.{filter}
use Rattle.row_values.specs.RowNumbers.{row_numbers}
use Rattle.row_tests.specs.Ready.{all_hold}
use Rattle.plan_operators.proofs.seq_scan.passing_rows.Given as goal

-- the rows so far that pass
abbrev pub invariant-loop-row : goal.invariant-loop-row
invariant-loop-row l = l.rows.items ≡ filter (all_hold l.args l.table l.ready) (row_numbers l.row)
