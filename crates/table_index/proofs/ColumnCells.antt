-- The cells of a column: by row number, packed, and in the order of an index.
use Rattle.std.proofs.Common.{ℕ, ℤ, zero, suc, ◌≡◌, ◌<◌, ◌≤◌, add-one, Bool, true, false, not, List, [], ◌∷◌, ap, sym}
use Rattle.std.proofs.Common.{◌∙◌, refl, length, map, take, get_or, arith, cond}
use Rattle.std.specs.Prelude.{Option, Some, slice_get, option_map, IsPermutation}
use Rattle.std.specs.List.{filter}
use Rattle.std.specs.Ordering.{int_cmp, is_eq}
use Rattle.std.proofs.lemmas.Cmp.{eq_by_cmp_equiv}
use Rattle.std.proofs.lemmas.List.{length-map, map_push, take_all, take_more}
use Rattle.std.proofs.lemmas.List.Sorted.{IsPermutation-map}
use Rattle.std.proofs.lemmas.Option.{slice_get-get_or}
use Rattle.row_values.specs.declared.values.Value.{Value}
use Rattle.row_values.specs.declared.values.Value.TheVariants.{Int}
use Rattle.csv_tables.specs.Tables.{AreNumbers, TableValue, cell_at, value_in}
use Rattle.row_values.specs.RowNumbers.{row_numbers}
use Rattle.row_values.specs.Sorting.{heads}
use Rattle.table_index.specs.Distinct.{cells_in, cells_of, distinct_count, distinct_in, is_same_cell}
use Rattle.row_values.proofs.TotalOrders.{cell_order_total}
use Rattle.table_index.proofs.SameHeads.{heads_of_permutation}

-- what stands at each row number, in their order
first_rows : {X Y : Type 0} (g : ℕ → Y) (h : X → Y) (xs : List X) (d : X)
    → ((k : ℕ) → k < length xs → g k ≡ h (get_or xs k d))
    → (n : ℕ) → n ≤ length xs → map g (row_numbers n) ≡ map h (take n xs)
first_rows g h xs d e zero l = refl
first_rows g h xs d e (suc n) l =
    let short : n < length xs = omega (arith, l) in
    rw (
      map_push g (row_numbers n) n,
      first_rows g h xs d e n (omega (arith, l)),
      e n short,
      ← add-one,
      take_more xs n d short,
      map_push h (take n xs) (get_or xs n d),
    )
    refl

by_rows : {X Y : Type 0} (g : ℕ → Y) (h : X → Y) (xs : List X)
    → ((k : ℕ) (d : X) → k < length xs → g k ≡ h (get_or xs k d))
    → map g (row_numbers (length xs)) ≡ map h xs
by_rows g h [] e = refl
by_rows {X = X} g h (x ∷ xs) e =
    first_rows g h (x ∷ xs) x (λ k l. e k x l) (length (x ∷ xs)) (omega arith)
    ∙ ap (map h) (take_all (length (x ∷ xs)) (x ∷ xs) (omega arith))

pub cells_by_row : (table : TableValue) (column : ℕ)
    → cells_of table column (row_numbers (length table.rows)) ≡ cells_in table column
cells_by_row table column =
    by_rows (λ row. cell_at table row column) (λ (row : List Value). slice_get row column) table.rows
    (λ k d l. ap (λ (row : Option (List Value)). value_in row column) (slice_get-get_or table.rows k d l))

pub cells_are_numbers : (table : TableValue) (column : ℕ) (numbers : List ℤ) → AreNumbers table column numbers
    → cells_in table column ≡ map (λ number. Some (Int number)) numbers
cells_are_numbers table column numbers n =
    sym (cells_by_row table column)
    ∙ (ap (λ (count : ℕ). cells_of table column (row_numbers count)) (sym n.count)
    ∙ by_rows (λ row. cell_at table row column) (λ (number : ℤ). Some (Int number)) numbers
    (λ k d l. n.cells k ∙ ap (option_map Int) (slice_get-get_or numbers k d l)))

-- a list that is mapped has the heads that are mapped
filter-map : {X Y : Type 0} (f : X → Y) (p : Y → Bool) (xs : List X)
    → filter p (map f xs) ≡ map f (filter (λ x. p (f x)) xs)
filter-map f p [] = refl
filter-map {Y = Y} f p (x ∷ xs) = by_test (p (f x)) (filter-map f p xs)
  where
    by_test : (b : Bool) → filter p (map f xs) ≡ map f (filter (λ x. p (f x)) xs)
        → cond b (f x ∷ filter p (map f xs)) (filter p (map f xs))
        ≡ map f (cond b (x ∷ filter (λ x. p (f x)) xs) (filter (λ x. p (f x)) xs))
    by_test true more = ap (λ (ys : List Y). f x ∷ ys) more
    by_test false more = more

heads-map : {X Y : Type 0} (f : X → Y) (same : Y → Y → Bool) (xs : List X)
    → heads same (map f xs) ≡ map f (heads (λ a b. same (f a) (f b)) xs)
heads-map f same [] = refl
heads-map {Y = Y} f same (x ∷ xs) =
    ap (λ (ys : List Y). f x ∷ ys)
    (ap (filter (λ y. not (same (f x) y))) (heads-map f same xs)
    ∙ filter-map f (λ y. not (same (f x) y)) (heads (λ a b. same (f a) (f b)) xs))

-- the distinct numbers of a packed column are its distinct cells
pub distinct_of_numbers : (table : TableValue) (column : ℕ) (numbers : List ℤ) → AreNumbers table column numbers
    → distinct_count (λ a b. is_eq (int_cmp a b)) numbers ≡ distinct_in table column
distinct_of_numbers table column numbers n =
    sym (ap (distinct_count is_same_cell) (cells_are_numbers table column numbers n)
    ∙ (ap length (heads-map (λ number. Some (Int number)) is_same_cell numbers)
    ∙ length-map (heads (λ a b. is_eq (int_cmp a b)) numbers) (λ number. Some (Int number))))

-- rows in whatever order have the distinct cells of the column
pub distinct_of_rows : (table : TableValue) (column : ℕ) (rows : List ℕ)
    → IsPermutation (row_numbers (length table.rows)) rows
    → distinct_count is_same_cell (cells_of table column rows) ≡ distinct_in table column
distinct_of_rows table column rows p =
    sym (ap (distinct_count is_same_cell) (sym (cells_by_row table column))
    ∙ heads_of_permutation is_same_cell (eq_by_cmp_equiv cell_order_total)
    (cells_of table column (row_numbers (length table.rows))) (cells_of table column rows)
    (IsPermutation-map (λ row. cell_at table row column) (row_numbers (length table.rows)) rows p))
