use Rattle.std.proofs.Common.{ℕ, ◌≤◌, List, length}
use Rattle.csv_tables.specs.Tables.{TableValue}
use Rattle.result_shape.specs.Rows.{StandsFor}
use Rattle.worked_tables.proofs.statement.WorkedStatement.pulled_rows.Given as goal

-- the shaper stands for what was pulled so far
abbrev pub invariant-loop-pushed : goal.invariant-loop-pushed
invariant-loop-pushed l =
    (tables : List TableValue) × ((pulled : List (List ℕ)) × (StandsFor l.q tables l.shaper pulled
    × (length pulled ≤ l._pushed)))
