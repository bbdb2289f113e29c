-- Counting the fields of records, one record after the other.
use Rattle.std.specs.Prelude.{ℕ, ◌+◌, ◌==◌, if◌then◌else◌, List, [], ◌∷◌, Option, None, Some}
use Rattle.std.specs.Option.{option_or}
use Rattle.csv.specs.Machine.{ends_at_end, step}
use Rattle.csv.specs.Reading.{default_config}
use Rattle.csv.specs.declared.parser.State.{State}
use Rattle.csv_tables.specs.Shapes.{end_of, state_at}
use Rattle.csv_tables.specs.declared.shape.Count.{Count}
use Rattle.csv_tables.specs.declared.shape.End.{End}
use Rattle.csv_tables.specs.declared.shape.End.TheVariants as end
use Rattle.csv_tables.specs.declared.shape.Shape.{Shape}

-- a shape with a record more, of so many fields: the first one is the header
abbrev pub noted_under : Option ℕ → Shape → ℕ → Shape
noted_under None shape width = record { column_count = Some width; row_count = 0; uneven = None }
noted_under (Some columns) shape width = record {
  column_count = Some columns;
  row_count = shape.row_count + 1;
  uneven = option_or shape.uneven (if width == columns then None else Some (shape.row_count + 1));
}

abbrev pub noted : Shape → ℕ → Shape
noted shape width = noted_under shape.column_count shape width

-- the same, for records of these widths
abbrev pub all_noted : Shape → List ℕ → Shape
all_noted shape [] = shape
all_noted shape (width ∷ widths) = all_noted (noted shape width) widths

-- what follows by what a byte ends
abbrev pub by_end : {T : Type 0} → End → T → T → T → T
by_end end.Nothing nothing field whole = nothing
by_end end.Field nothing field whole = field
by_end end.Record nothing field whole = whole

-- how many fields the records of a text have, from a state and so many fields of the record at hand
abbrev pub widths : State → ℕ → List ℕ → List ℕ
widths state fields [] = if ends_at_end state then (fields + 1) ∷ [] else []
widths state fields (byte ∷ bytes) =
    by_end (end_of (step default_config state byte).1) (widths (step default_config state byte).0 fields bytes)
    (widths (step default_config state byte).0 (fields + 1) bytes)
    ((fields + 1) ∷ widths (step default_config state byte).0 0 bytes)

-- the shape of all records, by what was counted and the bytes that are left
abbrev pub total_of : Count → List ℕ → Shape
total_of count bytes = all_noted count.shape (widths (state_at count.state) count.field_count bytes)
