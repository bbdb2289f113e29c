-- The cells of data rows: which may stand in a column, and their values.
use Rattle.std.specs.Prelude.{ℕ, suc, ◌+◌, ◌==◌, Bool, true, not, ◌&&◌, if◌then◌else◌, List, [], ◌∷◌, length}
use Rattle.std.specs.Prelude.{slice_index_or, Option, None, Some}
use Rattle.std.specs.List.{list_all}
use Rattle.std.specs.Str.{is_utf8}
use Rattle.row_values.specs.declared.columns.Column.{Column}
use Rattle.row_values.specs.declared.values.Kind.{Kind}
use Rattle.row_values.specs.declared.values.Kind.TheVariants.{Int, Text}
use Rattle.row_values.specs.declared.values.Value.{Value}
use Rattle.row_values.specs.declared.values.Value.TheVariants as value
use Rattle.csv_tables.specs.Numbers.{is_whole_number, number_of}
use Rattle.csv_tables.specs.declared.header.Heading.{Heading}

-- the field in this column of a record, counted from 0
abbrev pub field : List (List ℕ) → ℕ → List ℕ
field row column = slice_index_or row column []

-- whether a text is a cell of this kind: a whole number, or UTF-8
abbrev pub is_cell : Kind → List ℕ → Bool
is_cell Int text = is_whole_number text
is_cell Text text = is_utf8 text

-- the value of a cell of this kind
abbrev pub value_of : Kind → List ℕ → Value
value_of Int text = value.Int (number_of text)
value_of Text text = value.Text text

-- whether a text may stand under a heading: in a column without a tag, any UTF-8
abbrev pub may_stand : Option Kind → List ℕ → Bool
may_stand (Some kind) text = is_cell kind text
may_stand None text = is_utf8 text

-- whether each cell of this column is a whole number
abbrev pub all_numbers : ℕ → List (List (List ℕ)) → Bool
all_numbers column rows = list_all (λ row. is_whole_number (field row column)) rows

-- whether there is a data row, and the column's cell in each of them is a whole number
abbrev pub is_number_column : ℕ → List (List (List ℕ)) → Bool
is_number_column column rows = not (length rows == 0) && all_numbers column rows

-- the kind of a column: as tagged, else INT exactly where it is a column of numbers
abbrev pub kind_by : Option Kind → Bool → Kind
kind_by (Some kind) is_number = kind
kind_by None is_number = if is_number then Int else Text

-- the columns under these headings, the first of which is this column of the rows
abbrev pub columns_from : ℕ → List Heading → List (List (List ℕ)) → List Column
columns_from column [] rows = []
columns_from column (heading ∷ headings) rows =
    record { name = heading.name; kind = kind_by heading.kind_tag (is_number_column column rows) }
    ∷ columns_from (suc column) headings rows

-- the values of a row, from this column on
abbrev pub values_from : ℕ → List Column → List (List ℕ) → List Value
values_from column [] row = []
values_from column (this ∷ columns) row = value_of this.kind (field row column) ∷ values_from (suc column) columns row

-- the number of the first column, from this one on, whose cell in a row may not stand there; the first column's is 1
abbrev pub bad_column : ℕ → List Heading → List (List ℕ) → Option ℕ
bad_column column [] row = None
bad_column column (heading ∷ headings) row =
    if may_stand heading.kind_tag (field row column) then bad_column (suc column) headings row else Some (column + 1)

-- whether each field of a row, from this column on, is a cell of its column's kind
abbrev pub are_cells : ℕ → List Column → List (List ℕ) → Bool
are_cells column [] row = true
are_cells column (this ∷ columns) row = is_cell this.kind (field row column) && are_cells (suc column) columns row
