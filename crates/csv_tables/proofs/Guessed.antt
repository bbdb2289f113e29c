-- Columns that the first rows show, and that all rows fit.
use Rattle.std.proofs.Common.{◌≡◌, ◌≤◌, ℕ, zero, suc, Bool, true, false, not, ◌&&◌, List, [], ◌∷◌, length, min, take}
use Rattle.std.proofs.Common.{Option, None, Some, refl, sym, ap, ◌∙◌, arith}
use Rattle.std.proofs.lemmas.Bool.{and_parts, false≢true, ne_eqb}
use Rattle.std.specs.List.{list_all}
use Rattle.row_values.specs.declared.columns.Column.{Column}
use Rattle.row_values.specs.declared.values.Kind.{Kind}
use Rattle.csv_tables.specs.Cells.{all_numbers, are_cells, bad_column, columns_from, field, is_cell, is_number_column}
use Rattle.csv_tables.specs.Cells.{kind_by, may_stand}
use Rattle.csv_tables.specs.Numbers.{is_whole_number}
use Rattle.csv_tables.specs.Spelled.{bad_cell}
use Rattle.csv_tables.specs.declared.header.Heading.{Heading}
use Rattle.csv_tables.proofs.Texts.{number_is_text}

both : {T : Type 0} (p q : T → Bool) (xs : List T) → list_all (λ x. p x && q x) xs ≡ true
    → (list_all p xs ≡ true) × (list_all q xs ≡ true)
both p q [] h = (refl, refl)
both p q (x ∷ xs) h =
    let parts = and_parts (p x && q x) (list_all (λ y. p y && q y) xs) h in
    let here = and_parts (p x) (q x) parts.0 in
    let rest = both p q xs parts.1 in
    (rw here.0 rest.0, rw here.1 rest.1)

front_fails : {T : Type 0} (p : T → Bool) (n : ℕ) (xs : List T) → list_all p (take n xs) ≡ false
    → list_all p xs ≡ false
front_fails p zero xs h = absurd (false≢true (sym h))
front_fails p (suc n) [] h = h
front_fails p (suc n) (x ∷ xs) h = by_test (p x) (front_fails p n xs) h
  where
    by_test : (b : Bool) → (list_all p (take n xs) ≡ false → list_all p xs ≡ false)
        → (b && list_all p (take n xs)) ≡ false → (b && list_all p xs) ≡ false
    by_test true rest e = rest e
    by_test false rest e = refl

some_rows : (column : ℕ) (row : List (List ℕ)) (rows : List (List (List ℕ)))
    → is_number_column column (row ∷ rows) ≡ all_numbers column (row ∷ rows)
some_rows column row rows =
    ap (λ (b : Bool). not b && all_numbers column (row ∷ rows))
    (ne_eqb (length (row ∷ rows)) 0 (λ e. absurd (omega (arith, e))))

-- the kind that the first rows show a column to be of is its kind
same_kind : (tag : Option Kind) (column seen : ℕ) (rows : List (List (List ℕ))) → min 1 (length rows) ≤ seen
    → list_all (λ row. is_cell (kind_by tag (is_number_column column (take seen rows))) (field row column)) rows ≡ true
    → kind_by tag (is_number_column column (take seen rows)) ≡ kind_by tag (is_number_column column rows)
same_kind (Some kind) column seen rows some fit = refl
same_kind None column zero [] some fit = refl
same_kind None column (suc seen) [] some fit = refl
same_kind None column zero (row ∷ rows) some fit = absurd (omega (arith, some))
same_kind None column (suc seen) (row ∷ rows) some fit =
    by_test (is_number_column column (row ∷ take seen rows)) refl fit
  where
    by_test : (b : Bool) → is_number_column column (row ∷ take seen rows) ≡ b
        → list_all (λ r. is_cell (kind_by None b) (field r column)) (row ∷ rows) ≡ true
        → kind_by None b ≡ kind_by None (is_number_column column (row ∷ rows))
    by_test true e numbers = ap (kind_by None) (sym (some_rows column row rows ∙ numbers))
    by_test false e texts =
        ap (kind_by None)
        (sym (some_rows column row rows
        ∙ front_fails (λ r. is_whole_number (field r column)) (suc seen) (row ∷ rows)
        (sym (some_rows column row (take seen rows)) ∙ e)))

pub columns_hold : (column : ℕ) (headings : List Heading) (seen : ℕ) (rows : List (List (List ℕ)))
    → min 1 (length rows) ≤ seen
    → list_all (are_cells column (columns_from column headings (take seen rows))) rows ≡ true
    → columns_from column headings (take seen rows) ≡ columns_from column headings rows
columns_hold column [] seen rows some fit = refl
columns_hold column (heading ∷ headings) seen rows some fit =
    let parts = both
    (λ row. is_cell (kind_by heading.kind_tag (is_number_column column (take seen rows))) (field row column))
    (are_cells (suc column) (columns_from (suc column) headings (take seen rows))) rows fit in
    let kind = same_kind heading.kind_tag column seen rows some parts.0 in
    let rest = columns_hold (suc column) headings seen rows some parts.1 in
    ap (λ (this : Kind). record { name = heading.name; kind = this }
    ∷ columns_from (suc column) headings (take seen rows)) kind
    ∙ ap (λ (more : List Column). record {
      name = heading.name;
      kind = kind_by heading.kind_tag (is_number_column column rows);
    } ∷ more) rest

-- what is a cell of its column's kind may stand there
cell_stands : (tag : Option Kind) (numbers : Bool) (text : List ℕ) → is_cell (kind_by tag numbers) text ≡ true
    → may_stand tag text ≡ true
cell_stands (Some kind) numbers text h = h
cell_stands None true text h = number_is_text text h
cell_stands None false text h = h

row_stands : (column : ℕ) (headings : List Heading) (all : List (List (List ℕ))) (row : List (List ℕ))
    → are_cells column (columns_from column headings all) row ≡ true → bad_column column headings row ≡ None
row_stands column [] all row h = refl
row_stands column (heading ∷ headings) all row h =
    let parts = and_parts
    (is_cell (kind_by heading.kind_tag (is_number_column column all)) (field row column))
    (are_cells (suc column) (columns_from (suc column) headings all) row) h in
    rw (cell_stands heading.kind_tag (is_number_column column all) (field row column) parts.0)
    (row_stands (suc column) headings all row parts.1)

pub rows_stand : (n : ℕ) (headings : List Heading) (all rows : List (List (List ℕ)))
    → list_all (are_cells 0 (columns_from 0 headings all)) rows ≡ true → bad_cell n headings rows ≡ None
rows_stand n headings all [] h = refl
rows_stand n headings all (row ∷ rows) h =
    let parts = and_parts (are_cells 0 (columns_from 0 headings all) row)
    (list_all (are_cells 0 (columns_from 0 headings all)) rows) h in
    rw (row_stands 0 headings all row parts.0) (rows_stand (suc n) headings all rows parts.1)
