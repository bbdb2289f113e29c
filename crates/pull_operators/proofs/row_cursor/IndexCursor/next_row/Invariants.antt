use Rattle.std.proofs.Common.{◌≡◌, ◌-◌, length}
use Rattle.index_ranges.specs.Ranges.{are_within}
use Rattle.pull_operators.specs.RowsLeft.{index_rows_left}
use Rattle.pull_operators.proofs.row_cursor.IndexCursor.next_row.Given as goal

-- a range whose rows were all given leaves nothing out
abbrev pub invariant-loop-row : goal.invariant-loop-row
invariant-loop-row l =
    are_within (length l.self.rows.now) l.self.ranges.items × (index_rows_left l.initial.self ≡ index_rows_left l.self)

abbrev pub decreases-loop-row : goal.decreases-loop-row
decreases-loop-row l = length l.self.ranges.items - l.self.number
