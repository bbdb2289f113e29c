use Rattle.std.proofs.Common.{◌≡◌, length}
use Rattle.pull_operators.specs.RowsLeft.{IsWithin, rows_left}
use Rattle.pull_operators.specs.StillToCome.{scan_to_come}
use Rattle.pull_operators.proofs.scan.Scan.next.Given as goal

-- the rows that were passed over make nothing
abbrev pub invariant-loop-row : goal.invariant-loop-row
invariant-loop-row l = IsWithin l.self.rows × (scan_to_come l.initial.self ≡ scan_to_come l.self)

abbrev pub decreases-loop-row : goal.decreases-loop-row
decreases-loop-row l = length (rows_left l.self.rows)
