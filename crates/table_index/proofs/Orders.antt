-- The orders of cells and of rows are total, and what is sorted by them.
use Rattle.std.proofs.Common.{ℕ, ℤ, ◌≡◌, ◌<◌, ◌+◌, false, List, refl, length, get_or, map, arith, pos}
use Rattle.std.specs.Prelude.{All, Option, None, Some, slice_get, option_map, IsSortedBy}
use Rattle.std.specs.Cmp.{IsStrictWeakOrder, nat_cmp_total}
use Rattle.std.specs.Option.{option_cmp}
use Rattle.std.specs.declared.cmp.Ordering.{Ordering}
use Rattle.std.specs.declared.cmp.Ordering.TheVariants.{Less, Equal, Greater}
use Rattle.std.specs.Ordering.{is_lt, int_cmp, nat_cmp, ordering_then}
use Rattle.std.proofs.lemmas.Cmp.{then_total, on_total}
use Rattle.std.proofs.lemmas.List.{get_or-map, length-map}
use Rattle.std.proofs.lemmas.List.Sorted.{ranks_by}
use Rattle.row_values.specs.declared.values.Value.TheVariants.{Int}
use Rattle.row_values.proofs.TotalOrders.{cell_order_total}
use Rattle.csv_tables.specs.Tables.{AreNumbers, TableValue, cell_at}
use Rattle.row_values.specs.Orders.{cell_order}
use Rattle.table_index.specs.Indexes.{is_before, number_order, row_order}

-- the order of the rows of a table in a column is total
pub rows_ranked : (table : TableValue) (column : ℕ) → IsStrictWeakOrder (is_before table column)
rows_ranked table column =
    ranks_by {R = row_order table column}
    (then_total (on_total (λ (row : ℕ). cell_at table row column) cell_order_total)
    (on_total (λ (row : ℕ). row) nat_cmp_total))
    (λ (row : ℕ). row)

-- rows that don't fall by cell and number don't fall by cell
pub first_not_less : (o n : Ordering) → is_lt (ordering_then o n) ≡ false → is_lt o ≡ false
first_not_less Less n h = h
first_not_less Equal n h = refl
first_not_less Greater n h = refl

-- the cells of rows in order rise
pub cells_rise : (table : TableValue) (column : ℕ) (rows : List ℕ) → IsSortedBy (is_before table column) rows
    → IsSortedBy (λ a b. is_lt (cell_order a b)) (map (λ row. cell_at table row column) rows)
cells_rise table column rows s k d low inside =
    let short : k + 1 < length rows = rw length-map at inside in
    rw (
      get_or-map (λ row. cell_at table row column) rows (k + 1) 0 d short,
      get_or-map (λ row. cell_at table row column)
          rows k 0 d (omega arith),
    )
    (first_not_less _ _ (s k 0 low short))

-- packed numbers stand as their cells do
pub same_order : (a b : Option ℤ) → cell_order (option_map Int a) (option_map Int b) ≡ option_cmp int_cmp a b
same_order None None = refl
same_order None (Some b) = refl
same_order (Some a) None = refl
same_order (Some a) (Some b) = refl

-- rows in the order of a packed column are in the order of its cells
pub ordered_by_numbers : (table : TableValue) (column : ℕ) (numbers : List ℤ) (rows : List ℕ)
    → AreNumbers table column numbers
    → IsSortedBy (λ a b. is_lt (number_order numbers a b)) rows → IsSortedBy (is_before table column) rows
ordered_by_numbers table column numbers rows n s k d low inside =
    rw (
      n.cells (get_or rows (k + 1) d),
      n.cells (get_or rows k d),
      same_order (slice_get numbers (get_or rows (k + 1) d))
          (slice_get numbers (get_or rows k d)),
    )
    (s k d low inside)

-- the rows of sorted pairs are in order
pub pairs_ordered : (numbers : List ℤ) (pairs : List (ℤ × ℕ))
    → All (λ pair. slice_get numbers pair.1 ≡ Some pair.0) pairs
    → IsSortedBy (λ x y. is_lt (ordering_then (int_cmp x.0 y.0) (nat_cmp x.1 y.1))) pairs
    → IsSortedBy (λ a b. is_lt (number_order numbers a b)) (map (λ pair. pair.1) pairs)
pairs_ordered numbers pairs all s k d low inside =
    let short : k + 1 < length pairs = rw length-map at inside in
    let e : ℤ × ℕ = get_or pairs 0 (pos 0, 0) in
    rw (
      get_or-map (λ (pair : ℤ × ℕ). pair.1) pairs (k + 1) e d short,
      get_or-map (λ (pair : ℤ × ℕ). pair.1) pairs k e d (omega arith),
      all (k + 1) e short,
      all k e (omega arith),
    )
    (s k e low short)
