use Rattle.std.proofs.Common.{◌≡◌, ◌++◌, drop, take}
use Rattle.std.specs.Option.{option_or}
use Rattle.csv.specs.Records.{fields_of}
use Rattle.csv_tables.specs.Cells.{bad_column}
use Rattle.csv_tables.specs.Surveys.{numbers_after}
use Rattle.csv_tables.proofs.survey.note_cells.Given as goal

-- the columns that are left decide
abbrev pub invariant-loop-column : goal.invariant-loop-column
invariant-loop-column l = record {
  bad : option_or l.bad (bad_column l.column (drop l.column l.headings) (fields_of l.row))
      ≡ bad_column 0 l.headings (fields_of l.row);
  numbers : take l.column l.numbers ++ numbers_after l.column (drop l.column l.numbers) (fields_of l.row)
      ≡ numbers_after 0 l.initial.numbers (fields_of l.row);
}
