-- A file without a fault spells a table.
use Rattle.std.proofs.Common.{if◌then◌else◌, ◌≡◌, ◌≤◌, ◌+◌, ◌*◌, ℕ, suc, nat_eq, Bool, true, false, not, ◌||◌, List, []}
use Rattle.std.proofs.Common.{◌∷◌, ◌++◌, get_or, length, map, Option, None, Some, Ok, Err, option_map, take, zero, refl, sym, ap, ◌∙◌, arith}
use Rattle.std.proofs.Common.{zero-mul, suc-mul, length-append}
use Rattle.std.proofs.lemmas.Bool.{and_parts, or_parts}
use Rattle.std.proofs.lemmas.List.{drop_at, get_or-map, length-map, take_at}
use Rattle.std.specs.List.{flat_map, list_all, list_any}
use Rattle.std.specs.Str.{bytes_eq, is_utf8}
use Rattle.row_values.specs.Columns.{IsSchema, are_names, is_name_in}
use Rattle.row_values.specs.Values.{kind_of}
use Rattle.row_values.specs.declared.columns.Column.{Column}
use Rattle.row_values.specs.declared.columns.TheConstants.{COLUMN_LIMIT}
use Rattle.row_values.specs.declared.values.Kind.{Kind}
use Rattle.row_values.specs.declared.values.Kind.TheVariants.{Int, Text}
use Rattle.row_values.specs.declared.values.Value.{Value}
use Rattle.csv_tables.specs.Cells.{all_numbers, are_cells, bad_column, columns_from, field, is_cell, is_number_column}
use Rattle.csv_tables.specs.Cells.{kind_by, may_stand, value_of, values_from}
use Rattle.csv_tables.specs.Headers.{bad_name, heading_of, is_bad_name, name_of}
use Rattle.csv_tables.specs.Numbers.{is_whole_number}
use Rattle.csv_tables.specs.Spelled.{bad_cell, cell_in_row, faults_of, first_of, table_of, uneven_row}
use Rattle.csv_tables.specs.Reading.{records_of}
use Rattle.csv_tables.specs.Surveys.{IsShapedFile, IsSurveyedFile}
use Rattle.csv_tables.specs.declared.survey.Survey.{Survey}
use Rattle.csv_tables.specs.Tables.{IsKept, column_kinds, rows_of, table_of_cells}
use Rattle.csv_tables.specs.declared.faults.TableFault.TheVariants.{BadCell}
use Rattle.csv_tables.specs.declared.header.Heading.{Heading}
use Rattle.csv_tables.specs.declared.table.TheConstants.{CELL_LIMIT, ROW_LIMIT}
use Rattle.csv_tables.proofs.Rows.{length-rows_of}
use Rattle.csv_tables.proofs.Guessed.{columns_hold, rows_stand}
use Rattle.csv_tables.proofs.Spelled.{NoFault, cell_first, few_cells, few_rows, no_fault, refused, shape_faults, spelled}

-- ---- each cell is one of its column's kind

none_here : (b : Bool) (n : ℕ) (rest : Option ℕ) → (if b then rest else Some n) ≡ None → (b ≡ true) × (rest ≡ None)
none_here true n rest h = (refl, h)
none_here false n rest h = cc

none_in_row : (n : ℕ) (column : Option ℕ) (below : Option (ℕ × ℕ)) → cell_in_row n column below ≡ None
    → (column ≡ None) × (below ≡ None)
none_in_row n None below h = (refl, h)
none_in_row n (Some column) below h = cc

-- a cell that may stand under a heading is one of the column's kind, where a column of numbers has numbers alone
stands : (kind_tag : Option Kind) (numbers : Bool) (text : List ℕ) → may_stand kind_tag text ≡ true
    → (numbers ≡ true → is_whole_number text ≡ true)
    → is_cell (kind_by kind_tag numbers) text ≡ true
stands (Some kind) numbers text h n = h
stands None true text h n = n refl
stands None false text h n = h

row_is_sound : (column : ℕ) (headings : List Heading) (all : List (List (List ℕ))) (row : List (List ℕ))
    → bad_column column headings row ≡ None
    → ((k : ℕ) → all_numbers k all ≡ true → is_whole_number (field row k) ≡ true)
    → are_cells column (columns_from column headings all) row ≡ true
row_is_sound column [] all row h n = refl
row_is_sound column (heading ∷ headings) all row h n =
    let (here, rest) =
    none_here (may_stand heading.kind_tag (field row column)) (column + 1) (bad_column (suc column) headings row) h
    in
    let cell = stands heading.kind_tag (is_number_column column all) (field row column) here
    (λ e. n column (and_parts _ _ e).1) in
    rw (cell) (row_is_sound (suc column) headings all row rest n)

pub rows_are_sound : (n : ℕ) (headings : List Heading) (all rows : List (List (List ℕ)))
    → bad_cell n headings rows ≡ None
    → ((k : ℕ) → all_numbers k all ≡ true → all_numbers k rows ≡ true)
    → list_all (are_cells 0 (columns_from 0 headings all)) rows ≡ true
rows_are_sound n headings all [] h p = refl
rows_are_sound n headings all (row ∷ rows) h p =
    let (here, below) = none_in_row n (bad_column 0 headings row) (bad_cell (suc n) headings rows) h in
    let this = row_is_sound 0 headings all row here
    (λ k e. (and_parts (is_whole_number (field row k)) (all_numbers k rows) (p k e)).0) in
    rw (this)
    (rows_are_sound (suc n) headings all rows below
    (λ k e. (and_parts (is_whole_number (field row k)) (all_numbers k rows) (p k e)).1))

-- ---- the columns are a schema

pub length-columns_from : (column : ℕ) (headings : List Heading) (rows : List (List (List ℕ)))
    → length (columns_from column headings rows) ≡ length headings
length-columns_from column [] rows = refl
length-columns_from column (heading ∷ headings) rows = ap suc (length-columns_from (suc column) headings rows)

abbrev names_of : List Column → List (List ℕ)
names_of columns = map (λ (column : Column). column.name) columns

names-columns_from : (column : ℕ) (header : List (List ℕ)) (rows : List (List (List ℕ)))
    → names_of (columns_from column (map heading_of header) rows) ≡ map name_of header
names-columns_from column [] rows = refl
names-columns_from column (cell ∷ header) rows =
    ap (λ (names : List (List ℕ)). name_of cell ∷ names) (names-columns_from (suc column) header rows)

any-append : (test : List ℕ → Bool) (xs ys : List (List ℕ)) → list_any test (xs ++ ys) ≡ false
    → (list_any test xs ≡ false) × (list_any test ys ≡ false)
any-append test [] ys h = (refl, h)
any-append test (x ∷ xs) ys h =
    let (here, rest) = or_parts (test x) (list_any test (xs ++ ys)) h in
    let (front, back) = any-append test xs ys rest in
    (rw here front, back)

good_or_bad : (b : Bool) (n : ℕ) (rest : Option ℕ) → (if b then Some n else rest) ≡ None → (b ≡ false) × (rest ≡ None)
good_or_bad false n rest h = (refl, h)
good_or_bad true n rest h = cc

good_parts : (earlier : List (List ℕ)) (name : List ℕ) → is_bad_name earlier name ≡ false
    → (nat_eq (length name) 0 ≡ false) × (list_any (bytes_eq name) earlier ≡ false)
good_parts earlier name h =
    let (front, new) = or_parts (nat_eq (length name) 0 || not (is_utf8 name)) (list_any (bytes_eq name) earlier) h in
    ((or_parts (nat_eq (length name) 0) (not (is_utf8 name)) front).0, new)

-- a name that is there already doesn't come again
not_again : (name : List ℕ) (n : ℕ) (earlier : List (List ℕ)) (columns : List Column)
    → bad_name n earlier (names_of columns) ≡ None
    → ((other : List ℕ) → list_any (bytes_eq other) earlier ≡ false → bytes_eq other name ≡ false)
    → is_name_in name columns ≡ false
not_again name n earlier [] h there = refl
not_again name n earlier (column ∷ columns) h there =
    let (good, rest) =
    good_or_bad (is_bad_name earlier column.name) n (bad_name (suc n) (earlier ++ column.name
    ∷ []) (names_of columns)) h in
    let new = (good_parts earlier column.name good).1 in
    rw (there column.name new)
    (not_again name (suc n) (earlier ++ column.name ∷ []) columns rest
    (λ other e. there other (any-append (bytes_eq other) earlier (column.name ∷ []) e).0))

pub names_are_good : (n : ℕ) (earlier : List (List ℕ)) (columns : List Column)
    → bad_name n earlier (names_of columns) ≡ None → are_names columns ≡ true
names_are_good n earlier [] h = refl
names_are_good n earlier (column ∷ columns) h =
    let (good, rest) =
    good_or_bad (is_bad_name earlier column.name) n (bad_name (suc n) (earlier ++ column.name
    ∷ []) (names_of columns)) h in
    let full = (good_parts earlier column.name good).0 in
    let alone = not_again column.name (suc n) (earlier ++ column.name ∷ []) columns rest
    (λ other e. (or_parts (bytes_eq other column.name) false (any-append (bytes_eq other) earlier (column.name
    ∷ []) e).1).0) in
    rw (full, alone) (names_are_good (suc n) (earlier ++ column.name ∷ []) columns rest)

pub is_schema : (header : List (List ℕ)) (rows : List (List (List ℕ))) → NoFault header rows
    → IsSchema (columns_from 0 (map heading_of header) rows)
is_schema header rows f = record {
  few = rw (length-columns_from 0 (map heading_of header) rows, length-map header heading_of) f.columns;
  named =
      names_are_good 1 [] (columns_from 0 (map heading_of header) rows) (rw (names-columns_from 0 header rows) f.names);
}

-- ---- the cells are the rows

pub length-values_from : (column : ℕ) (columns : List Column) (row : List (List ℕ))
    → length (values_from column columns row) ≡ length columns
length-values_from column [] row = refl
length-values_from column (this ∷ columns) row = ap suc (length-values_from (suc column) columns row)

kind-value_of : (kind : Kind) (text : List ℕ) → kind_of (value_of kind text) ≡ kind
kind-value_of Int text = refl
kind-value_of Text text = refl

kinds-values_from : (column : ℕ) (columns : List Column) (row : List (List ℕ))
    → map kind_of (values_from column columns row) ≡ column_kinds columns
kinds-values_from column [] row = refl
kinds-values_from column (this ∷ columns) row =
    rw (kind-value_of this.kind (field row column))
    (ap (λ (kinds : List Kind). this.kind ∷ kinds) (kinds-values_from (suc column) columns row))

pub rows_of_cells : (columns : List Column) (rows : List (List (List ℕ)))
    → rows_of (length rows) (length columns) (flat_map (values_from 0 columns) rows) ≡ map (values_from 0 columns) rows
unfolding rows_of
rows_of_cells columns [] = refl
rows_of_cells columns (row ∷ rows) =
    let values = values_from 0 columns row in
    let rest = flat_map (values_from 0 columns) rows in
    let width = length-values_from 0 columns row in
    rw (take_at values rest (length columns) width, drop_at values rest (length columns) width)
    (ap (λ (more : List (List Value)). values ∷ more) (rows_of_cells columns rows))

length-cells : (columns : List Column) (rows : List (List (List ℕ)))
    → length (flat_map (values_from 0 columns) rows) ≡ length rows * length columns
length-cells columns [] = sym (zero-mul (length columns))
length-cells columns (row ∷ rows) =
    let rest = length-cells columns rows in
    let width = length-values_from 0 columns row in
    let whole = length-append (values_from 0 columns row) (flat_map (values_from 0 columns) rows) in
    let times = suc-mul (length rows) (length columns) in
    omega arith

pub is_kept : (columns : List Column) (rows : List (List (List ℕ))) → IsSchema columns → length rows ≤ ROW_LIMIT
    → length rows * length columns ≤ CELL_LIMIT → IsKept columns (length rows) (flat_map (values_from 0 columns) rows)
is_kept columns rows schema few cells = record {
  full = length-cells columns rows;
  sound = record {
    columns = schema;
    few_rows = rw (length-rows_of (length rows) (length columns) (flat_map (values_from 0 columns) rows)) few;
    few_cells = rw (length-rows_of (length rows) (length columns) (flat_map (values_from 0 columns) rows)) cells;
    fits = rw (rows_of_cells columns rows) (λ k d h.
        let inside = rw (length-map rows (values_from 0 columns)) at h in
        rw (get_or-map (values_from 0 columns) rows k [] d inside) (kinds-values_from 0 columns (get_or rows k [])));
  };
}

-- ---- the first rows

pub whole_front : {T : Type 0} (n : ℕ) (xs : List T) → length (take n xs) ≡ length xs → take n xs ≡ xs
whole_front zero [] h = refl
whole_front zero (x ∷ xs) h = absurd (omega (arith, h))
whole_front (suc n) [] h = refl
whole_front {T = T} (suc n) (x ∷ xs) h = ap (λ (ys : List T). x ∷ ys) (whole_front n xs (omega (arith, h)))

-- ---- the cells that are read

-- behind the header come the rows
pub behind_header : (found : Bool) (header fields : List (List ℕ)) (rows left : List (List (List ℕ)))
    → header ∷ rows ≡ (if found then fields ∷ left else []) → left ≡ rows
behind_header true header fields rows left h = cc
behind_header false header fields rows left h = cc

-- what is left of a file behind its header, where its columns were made of its first rows
pub record Left (row_count : ℕ) (columns : List Column) (left : List (List (List ℕ))) : Type 0 where
  pub counted : length left ≡ row_count
  pub cells : row_count * length columns ≤ CELL_LIMIT

pub left : (bytes : List ℕ) (headings : List Heading) (row_count : ℕ) (survey : Survey) (columns : List Column)
    (found : Bool) (fields : List (List ℕ)) (rows : List (List (List ℕ)))
    → (file : IsSurveyedFile bytes headings row_count survey)
    → columns ≡ columns_from 0 headings (take file.seen file.shaped.rows)
    → records_of bytes ≡ (if found then fields ∷ rows else []) → Left row_count columns rows
left bytes headings row_count survey columns found fields rows file made next =
    let are = behind_header found file.shaped.header fields file.shaped.rows rows (sym file.shaped.reads ∙ next) in
    let width : length columns ≡ length file.shaped.header =
    ap length made
    ∙ (length-columns_from 0 headings (take file.seen file.shaped.rows)
    ∙ (ap length file.shaped.headings_are ∙ length-map file.shaped.header heading_of)) in
    record {
      counted = rw are (sym file.shaped.counted);
      cells = rw (width, file.shaped.counted) file.shaped.few_cells;
    }

-- what is known of such a file, where its cells are of the columns' kinds
pub record Built (bytes : List ℕ) (row_count : ℕ) (columns : List Column) (left : List (List (List ℕ))) : Type 0 where
  pub counted : row_count ≡ length left
  pub schema : IsSchema columns
  pub few : length left ≤ ROW_LIMIT
  pub cells : length left * length columns ≤ CELL_LIMIT
  pub spells : table_of bytes ≡ Ok (record { schema = columns; rows = map (values_from 0 columns) left })

pub built : (bytes : List ℕ) (headings : List Heading) (row_count : ℕ) (survey : Survey) (columns : List Column)
    (found : Bool) (fields : List (List ℕ)) (rows : List (List (List ℕ)))
    → (file : IsSurveyedFile bytes headings row_count survey)
    → columns ≡ columns_from 0 headings (take file.seen file.shaped.rows)
    → records_of bytes ≡ (if found then fields ∷ rows else [])
    → list_all (are_cells 0 columns) rows ≡ true → Built bytes row_count columns rows
built bytes headings row_count survey columns found fields rows file made next fit =
    let shaped = file.shaped in
    let are = behind_header found shaped.header fields shaped.rows rows (sym shaped.reads ∙ next) in
    let fits : list_all (are_cells 0 (columns_from 0 headings (take file.seen shaped.rows))) shaped.rows ≡ true =
    rw (← made, ← are) fit in
    let hold = columns_hold 0 headings file.seen shaped.rows (rw (← shaped.counted) file.some) fits in
    let all : columns ≡ columns_from 0 headings shaped.rows = made ∙ hold in
    let good : bad_cell 1 headings shaped.rows ≡ None = rows_stand 1 headings (take file.seen shaped.rows) shaped.rows fits in
    let none : first_of (faults_of shaped.header shaped.rows) ≡ None =
    shaped.first ∙ ap (option_map (λ at. BadCell at.0 at.1)) good in
    let f = no_fault shaped.header shaped.rows none in
    let same : columns ≡ columns_from 0 (map heading_of shaped.header) shaped.rows = rw (← shaped.headings_are) all in
    let width : length (columns_from 0 (map heading_of shaped.header) shaped.rows) ≡ length shaped.header =
    length-columns_from 0 (map heading_of shaped.header) shaped.rows ∙ length-map shaped.header heading_of in
    record {
      counted = shaped.counted ∙ ap length (sym are);
      schema = rw same (is_schema shaped.header shaped.rows f);
      few = rw are f.rows_few;
      cells = rw (are, same, width) f.cells;
      spells = rw (are, same) (spelled bytes shaped.header shaped.rows shaped.reads none);
    }

-- where the survey saw all rows and no bad cell, their cells are of the columns' kinds
pub all_fit : (bytes : List ℕ) (headings : List Heading) (row_count : ℕ) (survey : Survey) (columns : List Column)
    (found : Bool) (fields : List (List ℕ)) (rows : List (List (List ℕ)))
    → (file : IsSurveyedFile bytes headings row_count survey)
    → columns ≡ columns_from 0 headings (take file.seen file.shaped.rows)
    → records_of bytes ≡ (if found then fields ∷ rows else [])
    → survey.row_count ≡ row_count → survey.bad_cell ≡ None → list_all (are_cells 0 columns) rows ≡ true
all_fit bytes headings row_count survey columns found fields rows file made next whole good =
    let shaped = file.shaped in
    let are = behind_header found shaped.header fields shaped.rows rows (sym shaped.reads ∙ next) in
    let long : length (take file.seen shaped.rows) ≡ length shaped.rows =
    sym file.survey_is.row_count ∙ (whole ∙ shaped.counted) in
    let all : take file.seen shaped.rows ≡ shaped.rows = whole_front file.seen shaped.rows long in
    let none : bad_cell 1 headings shaped.rows ≡ None = rw (← all) (sym file.survey_is.bad_cell ∙ good) in
    rw (made, are, all) (rows_are_sound 1 headings shaped.rows shaped.rows none (λ k e. e))

-- the cells that were read of a slice of these columns
pub record Second (columns schema slice : List Column) (items : List Value) (left : List (List (List ℕ))) : Type 0 where
  pub schema_is : schema ≡ columns
  pub slice_is : slice ≡ columns
  pub items_are : items ≡ flat_map (values_from 0 slice) left

pub kept : (bytes : List ℕ) (row_count : ℕ) (columns schema slice : List Column) (items : List Value)
    (left : List (List (List ℕ)))
    → Built bytes row_count columns left → Second columns schema slice items left → IsKept schema row_count items
kept bytes row_count columns schema slice items left k s =
    rw (s.schema_is, s.items_are, s.slice_is, k.counted) (is_kept columns left k.schema k.few k.cells)

pub spells : (bytes : List ℕ) (row_count : ℕ) (columns schema slice : List Column) (items : List Value)
    (left : List (List (List ℕ)))
    → Built bytes row_count columns left → Second columns schema slice items left
    → table_of bytes ≡ Ok (table_of_cells schema row_count items)
spells bytes row_count columns schema slice items left k s =
    rw (s.schema_is, s.items_are, s.slice_is, k.counted, rows_of_cells columns left) k.spells

-- ---- what the readings say

-- the header and the rows of a file, where its header and its shape have no fault
pub shaped_file : (bytes : List ℕ) (header : List (List ℕ)) (rows : List (List (List ℕ))) (headings : List Heading)
    (row_count : ℕ)
    → records_of bytes ≡ header ∷ rows → length header ≤ COLUMN_LIMIT → bad_name 1 [] (map name_of header) ≡ None
    → headings ≡ map heading_of header → row_count ≡ length rows
    → shape_faults (length rows) (length header) (uneven_row 1 (length header) rows) ≡ None
    → IsShapedFile bytes headings row_count
shaped_file bytes header rows headings row_count reads columns names are counted shape = record {
  header = header;
  rows = rows;
  reads = reads;
  headings_are = are;
  counted = counted;
  few_columns = columns;
  few_rows = few_rows (length rows) (length header) _ shape;
  few_cells = few_cells (length rows) (length header) _ shape;
  first = cell_first header rows (bad_cell 1 headings rows) columns names shape (rw are refl);
}

-- a bad cell that the survey of all rows found is the first fault
pub cell_refused : (bytes : List ℕ) (headings : List Heading) (row_count : ℕ) (survey : Survey) (at : ℕ × ℕ)
    → (file : IsSurveyedFile bytes headings row_count survey) → survey.row_count ≡ row_count
    → survey.bad_cell ≡ Some at → table_of bytes ≡ Err (BadCell at.0 at.1)
cell_refused bytes headings row_count survey at file whole bad =
    let shaped = file.shaped in
    let long : length (take file.seen shaped.rows) ≡ length shaped.rows =
    sym file.survey_is.row_count ∙ (whole ∙ shaped.counted) in
    let all : take file.seen shaped.rows ≡ shaped.rows = whole_front file.seen shaped.rows long in
    let found : bad_cell 1 headings shaped.rows ≡ Some at = rw (← all) (sym file.survey_is.bad_cell ∙ bad) in
    refused bytes shaped.header shaped.rows (BadCell at.0 at.1) shaped.reads
    (shaped.first ∙ ap (option_map (λ at. BadCell at.0 at.1)) found)
