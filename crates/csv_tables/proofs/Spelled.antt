-- The first fault of a header and data rows.
use Rattle.std.proofs.Common.{if◌then◌else◌, ◌+◌, ◌∙◌, suc, nat_eq, ap, inl, inr, ◌≡◌, ◌<◌, ◌≤◌, ◌*◌, ℕ, nat_lt, Bool}
use Rattle.std.proofs.Common.{true, false, List, [], ◌∷◌, length, map, option_map, Option, None, Some, Ok, Err, refl}
use Rattle.std.proofs.Common.{sym, arith}
use Rattle.std.proofs.lemmas.Bool.{cases_Bool}
use Rattle.std.proofs.lemmas.Bool.Decides.{nat_tests}
use Rattle.std.specs.Option.{IfSome}
use Rattle.row_values.specs.declared.columns.TheConstants.{COLUMN_LIMIT}
use Rattle.csv_tables.specs.Headers.{bad_name, heading_of, name_of}
use Rattle.csv_tables.specs.Reading.{records_of}
use Rattle.csv_tables.specs.Spelled.{bad_cell, fault_if, faults_of, first_of, table_of, table_under, uneven_row}
use Rattle.csv_tables.specs.declared.faults.TableFault.{TableFault}
use Rattle.csv_tables.specs.declared.faults.TableFault.TheVariants.{Columns, BadHeader, Rows, Cells, NotCsv, BadCell}
use Rattle.csv_tables.specs.Shapes.{IsShape, IsShapeOf}
use Rattle.csv_tables.specs.declared.shape.Shape.{Shape}
use Rattle.csv_tables.specs.declared.table.TheConstants.{CELL_LIMIT, ROW_LIMIT}

above : (a b : ℕ) → a < b → nat_lt a b ≡ true
above a b h = grind (arith, nat_tests)

within : (a b : ℕ) → b ≤ a → nat_lt a b ≡ false
within a b h = grind (arith, nat_tests)

not_above : (a b : ℕ) → nat_lt a b ≡ false → b ≤ a
not_above a b h = grind (arith, nat_tests)

-- a file without a record
pub no_header : (bytes : List ℕ) → records_of bytes ≡ [] → table_of bytes ≡ Err (BadHeader 1)
unfolding table_of
no_header bytes reads = rw reads refl

-- a file whose records have a fault
pub refused : (bytes : List ℕ) (header : List (List ℕ)) (rows : List (List (List ℕ))) (fault : TableFault)
    → records_of bytes ≡ header ∷ rows → first_of (faults_of header rows) ≡ Some fault → table_of bytes ≡ Err fault
unfolding table_of
refused bytes header rows fault reads first = rw (reads, first) refl

-- a file whose records have none
pub spelled : (bytes : List ℕ) (header : List (List ℕ)) (rows : List (List (List ℕ)))
    → records_of bytes ≡ header ∷ rows → first_of (faults_of header rows) ≡ None
    → table_of bytes ≡ Ok (table_under header rows)
unfolding table_of
spelled bytes header rows reads first = rw (reads, first) refl

pub columns_first : (header : List (List ℕ)) (rows : List (List (List ℕ))) → COLUMN_LIMIT < length header
    → first_of (faults_of header rows) ≡ Some Columns
columns_first header rows h = rw (above COLUMN_LIMIT (length header) h) refl

pub name_first : (header : List (List ℕ)) (rows : List (List (List ℕ))) (fault : TableFault)
    → length header ≤ COLUMN_LIMIT
    → option_map BadHeader (bad_name 1 [] (map name_of header)) ≡ Some fault
    → first_of (faults_of header rows) ≡ Some fault
name_first header rows fault h e = rw (within COLUMN_LIMIT (length header) h, e) refl

-- the faults that a shape shows
abbrev pub shape_faults : ℕ → ℕ → Option ℕ → Option TableFault
shape_faults row_count column_count uneven =
    first_of
    (fault_if (nat_lt ROW_LIMIT row_count) Rows ∷ fault_if (nat_lt CELL_LIMIT (row_count * column_count)) Cells
    ∷ option_map NotCsv uneven ∷ [])

first_of_three : (a b d e : Option TableFault) (fault : TableFault) → first_of (a ∷ b ∷ d ∷ []) ≡ Some fault
    → first_of (a ∷ b ∷ d ∷ e ∷ []) ≡ Some fault
first_of_three (Some x) b d e fault h = h
first_of_three None (Some x) d e fault h = h
first_of_three None None (Some x) e fault h = h
first_of_three None None None e fault h = cc

last_of_four : (a b d e : Option TableFault) → first_of (a ∷ b ∷ d ∷ []) ≡ None → first_of (a ∷ b ∷ d ∷ e ∷ []) ≡ e
last_of_four (Some x) b d e h = cc
last_of_four None (Some x) d e h = cc
last_of_four None None (Some x) e h = cc
last_of_four None None None None h = refl
last_of_four None None None (Some x) h = refl

abbrev pub cell_fault : ℕ × ℕ → TableFault
cell_fault at = BadCell at.0 at.1

pub shape_first : (header : List (List ℕ)) (rows : List (List (List ℕ))) (fault : TableFault)
    → length header ≤ COLUMN_LIMIT
    → bad_name 1 [] (map name_of header) ≡ None
    → shape_faults (length rows) (length header) (uneven_row 1 (length header) rows) ≡ Some fault
    → first_of (faults_of header rows) ≡ Some fault
shape_first header rows fault few names h = rw (within COLUMN_LIMIT (length header) few, names)
    (first_of_three (fault_if (nat_lt ROW_LIMIT (length rows)) Rows)
    (fault_if (nat_lt CELL_LIMIT (length rows * length header)) Cells)
    (option_map NotCsv (uneven_row 1 (length header) rows))
    (option_map cell_fault (bad_cell 1 (map heading_of header) rows)) fault h)

pub cell_first : (header : List (List ℕ)) (rows : List (List (List ℕ))) (bad : Option (ℕ × ℕ))
    → length header ≤ COLUMN_LIMIT
    → bad_name 1 [] (map name_of header) ≡ None
    → shape_faults (length rows) (length header) (uneven_row 1 (length header) rows) ≡ None
    → bad_cell 1 (map heading_of header) rows ≡ bad → first_of (faults_of header rows) ≡ option_map cell_fault bad
cell_first header rows bad few names h e = rw (within COLUMN_LIMIT (length header) few, names)
    (last_of_four (fault_if (nat_lt ROW_LIMIT (length rows)) Rows)
    (fault_if (nat_lt CELL_LIMIT (length rows * length header)) Cells)
    (option_map NotCsv (uneven_row 1 (length header) rows))
    (option_map cell_fault (bad_cell 1 (map heading_of header) rows)) h
    ∙ ap (option_map cell_fault) e)

first_is_none : (fault : Option TableFault) (faults : List (Option TableFault)) → first_of (fault ∷ faults) ≡ None
    → fault ≡ None
first_is_none None faults h = refl
first_is_none (Some fault) faults h = cc

if_none : (b : Bool) (fault : TableFault) → fault_if b fault ≡ None → b ≡ false
if_none false fault h = refl
if_none true fault h = cc

some_same : (a b : ℕ) → Some a ≡ Some b → a ≡ b
some_same a b h = cc

same_parts : (a b : List (List ℕ)) (xs ys : List (List (List ℕ))) → a ∷ xs ≡ b ∷ ys → (a ≡ b) × (xs ≡ ys)
same_parts a b xs ys h = (cc, cc)

-- ---- the shape

-- where a shape has no fault, the rows are few
pub few_rows : (row_count column_count : ℕ) (uneven : Option ℕ) → shape_faults row_count column_count uneven ≡ None
    → row_count ≤ ROW_LIMIT
few_rows row_count column_count uneven h =
    not_above ROW_LIMIT row_count
    (if_none (nat_lt ROW_LIMIT row_count) Rows (first_is_none (fault_if (nat_lt ROW_LIMIT row_count) Rows)
    (fault_if (nat_lt CELL_LIMIT (row_count * column_count)) Cells ∷ option_map NotCsv uneven ∷ []) h))

two_none : (a b : Option TableFault) (faults : List (Option TableFault)) → first_of (a ∷ b ∷ faults) ≡ None → b ≡ None
two_none None b faults h = first_is_none b faults h
two_none (Some fault) b faults h = cc

pub few_cells : (row_count column_count : ℕ) (uneven : Option ℕ) → shape_faults row_count column_count uneven ≡ None
    → row_count * column_count ≤ CELL_LIMIT
few_cells row_count column_count uneven h =
    not_above CELL_LIMIT (row_count * column_count)
    (if_none (nat_lt CELL_LIMIT (row_count * column_count)) Cells
    (two_none (fault_if (nat_lt ROW_LIMIT row_count) Rows)
    (fault_if (nat_lt CELL_LIMIT (row_count * column_count)) Cells) (option_map NotCsv uneven ∷ []) h))

-- an uneven row is one of the rows
uneven_within : (n width : ℕ) (rows : List (List (List ℕ))) (number : ℕ) → uneven_row n width rows ≡ Some number
    → number < n + length rows
uneven_within n width [] number h = cc
uneven_within n width (row ∷ rows) number h =
    elim (cases_Bool (nat_eq (length row) width)) [
      | inl e ↦ let more = uneven_within (suc n) width rows number (rw e at h) in omega arith
      | inr e ↦ let same : n ≡ number = some_same n number (rw e at h) in omega arith
    ]

pub uneven_fits : (width : ℕ) (rows : List (List (List ℕ))) (o : Option ℕ) → uneven_row 1 width rows ≡ o
    → IfSome o (λ number. number ≤ length rows)
uneven_fits width rows None h = tt
uneven_fits width rows (Some number) h = let inside = uneven_within 1 width rows number h in omega arith

-- a file of no record has no columns
pub none_counted : (records : List (List (List ℕ))) (shape : Shape) → IsShape records shape → shape.column_count ≡ None
    → records ≡ []
none_counted [] shape s e = refl
none_counted (header ∷ rows) shape s e = let some = s.column_count in cc

-- else the first record is the header
pub record Headed (records : List (List (List ℕ))) (shape : Shape) (width : ℕ) : Type 0 where
  pub header : List (List ℕ)
  pub rows : List (List (List ℕ))
  pub are : records ≡ header ∷ rows
  pub width_is : width ≡ length header
  pub shape_is : IsShapeOf (length header) rows shape

pub some_counted : (records : List (List (List ℕ))) (shape : Shape) (width : ℕ) → IsShape records shape
    → shape.column_count ≡ Some width → Headed records shape width
some_counted [] shape width s e = cc
some_counted (header ∷ rows) shape width s e = record {
  header = header;
  rows = rows;
  are = refl;
  width_is = some_same width (length header) (sym e ∙ s.column_count);
  shape_is = s;
}

-- and it is the first that is read
pub record FirstRead (records : List (List (List ℕ))) (shape : Shape) (width : ℕ) (fields : List (List ℕ))
    (left : List (List (List ℕ))) : Type 0 where
  pub are : records ≡ fields ∷ left
  pub width_is : width ≡ length fields
  pub shape_is : IsShapeOf (length fields) left shape

pub first_read : (records : List (List (List ℕ))) (shape : Shape) (width : ℕ) (found : Bool) (fields : List (List ℕ))
    (left : List (List (List ℕ)))
    → Headed records shape width → records ≡ (if found then fields ∷ left else [])
    → FirstRead records shape width fields left
first_read records shape width false fields left h e = let are = h.are in cc
first_read records shape width true fields left h e =
    let (same, rest) = same_parts h.header fields h.rows left (sym h.are ∙ e) in
    record { are = e; width_is = rw (← same) h.width_is; shape_is = rw (← same, ← rest) h.shape_is }

-- where no fault holds, none of them does
pub record NoFault (header : List (List ℕ)) (rows : List (List (List ℕ))) : Type 0 where
  pub columns : length header ≤ COLUMN_LIMIT
  pub names : bad_name 1 [] (map name_of header) ≡ None
  pub rows_few : length rows ≤ ROW_LIMIT
  pub cells : length rows * length header ≤ CELL_LIMIT
  pub bad : bad_cell 1 (map heading_of header) rows ≡ None

all_none : (a b d e f g : Option TableFault) → first_of (a ∷ b ∷ d ∷ e ∷ f ∷ g ∷ []) ≡ None
    → (a ≡ None) × (b ≡ None) × (d ≡ None) × (e ≡ None) × (g ≡ None)
all_none None None None None None None h = (refl, refl, refl, refl, refl)
all_none (Some fault) b d e f g h = cc
all_none None (Some fault) d e f g h = cc
all_none None None (Some fault) e f g h = cc
all_none None None None (Some fault) f g h = cc
all_none None None None None (Some fault) g h = cc
all_none None None None None None (Some fault) h = cc

map_none : {T : Type 0} (f : T → TableFault) (o : Option T) → option_map f o ≡ None → o ≡ None
map_none f None h = refl
map_none f (Some x) h = cc

pub no_fault : (header : List (List ℕ)) (rows : List (List (List ℕ))) → first_of (faults_of header rows) ≡ None
    → NoFault header rows
no_fault header rows h =
    let (columns, names, many, cells, bad) = all_none
    (fault_if (nat_lt COLUMN_LIMIT (length header)) Columns) (option_map BadHeader (bad_name 1 [] (map name_of header)))
    (fault_if (nat_lt ROW_LIMIT (length rows)) Rows) (fault_if (nat_lt CELL_LIMIT (length rows * length header)) Cells)
    (option_map NotCsv (uneven_row 1 (length header) rows))
    (option_map cell_fault (bad_cell 1 (map heading_of header) rows)) h in
    record {
      columns = not_above COLUMN_LIMIT (length header) (if_none (nat_lt COLUMN_LIMIT (length header)) Columns columns);
      names = map_none (λ (n : ℕ). BadHeader n) (bad_name 1 [] (map name_of header)) names;
      rows_few = not_above ROW_LIMIT (length rows) (if_none (nat_lt ROW_LIMIT (length rows)) Rows many);
      cells =
          not_above CELL_LIMIT (length rows * length header)
          (if_none (nat_lt CELL_LIMIT (length rows * length header)) Cells cells);
      bad = map_none cell_fault (bad_cell 1 (map heading_of header) rows) bad;
    }
