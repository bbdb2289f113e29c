use Rattle.std.proofs.Common.{◌≡◌, ◌++◌, List, ℕ, drop}
use Rattle.csv_tables.specs.Cells.{columns_from}
use Rattle.csv_tables.specs.Surveys.{IsSurvey}
use Rattle.csv_tables.proofs.read.columns.Given as goal

-- the headings that are left decide
abbrev pub invariant-loop-column : goal.invariant-loop-column
invariant-loop-column l = (rows : List (List (List ℕ))) → IsSurvey l.headings rows l.survey
    → l.columns.items ++ columns_from l.column (drop l.column l.headings) rows ≡ columns_from 0 l.headings rows
