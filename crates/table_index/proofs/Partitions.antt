-- In the order of an index the cells below an end come first.
use Rattle.std.proofs.Common.{ℕ, ◌≡◌, ◌<◌, ◌≤◌, Bool, true, false, not, List, [], ap, sym, ◌∙◌, refl, length, get_or}
use Rattle.std.proofs.Common.{arith}
use Rattle.std.specs.Prelude.{All, Option, Some, slice_get}
use Rattle.std.specs.List.Sorted.{IsPartitionedBy}
use Rattle.std.specs.Cmp.{IsStrictWeakOrder}
use Rattle.std.specs.Ordering.{is_ge, is_gt, is_le, is_lt, ordering_reverse}
use Rattle.std.specs.declared.cmp.Ordering.{Ordering}
use Rattle.std.specs.declared.cmp.Ordering.TheVariants.{Less, Equal, Greater}
use Rattle.std.proofs.lemmas.Bool.{false≢true}
use Rattle.std.proofs.lemmas.List.{length-map}
use Rattle.std.proofs.lemmas.List.Sorted.{All-permutation, ranks_by, sorted_far}
use Rattle.std.proofs.lemmas.Option.{slice_get-get_or}
use Rattle.row_values.specs.Values.{kind_of}
use Rattle.row_values.specs.declared.values.Value.{Value}
use Rattle.csv_tables.specs.Tables.{IsTable, TableValue, cell_at, column_kinds, value_in}
use Rattle.csv_tables.proofs.PackedCells.{cell_fits, column_in_range}
use Rattle.row_values.specs.RowNumbers.{row_numbers}
use Rattle.row_values.specs.Orders.{compares, cell_order}
use Rattle.row_values.proofs.Rising.{below}
use Rattle.row_values.proofs.TotalOrders.{same_kind, cell_order_total}
use Rattle.table_index.specs.Bounds.{FitsColumn, lies_below, lies_up_to}
use Rattle.table_index.specs.Indexes.{AreOrdered, is_before}
use Rattle.table_index.specs.declared.bounds.Bound.{Bound}
use Rattle.table_index.specs.declared.bounds.Bound.TheVariants.{Free, Closed, Strict}
use Rattle.table_index.proofs.Orders.{first_not_less, rows_ranked}

-- a cell that is there and of a value's kind
record Stands (cell : Option Value) (value : Value) : Type 0 where
  found : Value
  is : cell ≡ Some found
  kind : kind_of found ≡ kind_of value

-- in a table each cell of a column of the value's kind stands so
stands : (table : TableValue) → IsTable table → (column row : ℕ) (value : Value)
    → slice_get (column_kinds table.schema) column ≡ Some (kind_of value)
    → row < length table.rows → Stands (cell_at table row column) value
stands table t column row value k inside =
    let kinds = t.fits row [] inside in
    let size : length (get_or table.rows row []) ≡ length table.schema =
    sym (length-map (get_or table.rows row []) kind_of)
    ∙ (ap length kinds ∙ length-map table.schema (λ column. column.kind)) in
    let wide : column < length (get_or table.rows row []) =
    omega (arith, size, column_in_range table.schema column (kind_of value) k) in
    let here : cell_at table row column ≡ Some (get_or (get_or table.rows row []) column value) =
    ap (λ (r : Option (List Value)). value_in r column) (slice_get-get_or table.rows row [] inside)
    ∙ slice_get-get_or (get_or table.rows row []) column value wide in
    record {
      found = get_or (get_or table.rows row []) column value;
      is = here;
      kind =
          cell_fits table t row column (kind_of value) (get_or (get_or table.rows row []) column value) inside k here;
    }

-- each comparison as a test of order
ge_not_less : (o : Ordering) → not (is_ge o) ≡ is_lt o
ge_not_less Less = refl
ge_not_less Equal = refl
ge_not_less Greater = refl

gt_back : (o : Ordering) → not (is_gt o) ≡ not (is_lt (ordering_reverse o))
gt_back Less = refl
gt_back Equal = refl
gt_back Greater = refl

le_back : (o : Ordering) → is_le o ≡ not (is_lt (ordering_reverse o))
le_back Less = refl
le_back Equal = refl
le_back Greater = refl

compared : (passes : Ordering → Bool) (cell : Option Value) (value : Value) → Stands cell value
    → compares passes cell (Some value) ≡ passes (cell_order cell (Some value))
compared passes cell value s = rw (s.is, same_kind s.found value s.kind) refl

back : (cell : Option Value) (value : Value)
    → ordering_reverse (cell_order cell (Some value)) ≡ cell_order (Some value) cell
back cell value = sym (cell_order_total.antisymm (Some value) cell)

-- cells below a value, and cells not above one, come first
abbrev lt : Option Value → Option Value → Bool
lt a b = is_lt (cell_order a b)

cells_ranked : IsStrictWeakOrder lt
cells_ranked = ranks_by cell_order_total (λ (cell : Option Value). cell)

less_first : (a b value : Option Value) → lt b a ≡ false → lt b value ≡ true → lt a value ≡ true
less_first a b value up here = by_test (lt a value) refl
  where
    by_test : (t : Bool) → lt a value ≡ t → t ≡ true
    by_test true e = refl
    by_test false e = absurd (false≢true (sym (cells_ranked.chain b a value up e) ∙ here))

not_more_first : (a b value : Option Value) → lt b a ≡ false → not (lt value b) ≡ true → not (lt value a) ≡ true
not_more_first a b value up here = ap not (cells_ranked.chain value b a (is_not (lt value b) here) up)
  where
    is_not : (t : Bool) → not t ≡ true → t ≡ false
    is_not true h = absurd (false≢true h)
    is_not false h = refl

-- the rows of an index are rows of the table, and their cells rise
pub record Rise (table : TableValue) (column : ℕ) (rows : List ℕ) : Type 0 where
  pub inside : All (λ row. row < length table.rows) rows
  pub up : (i j d : ℕ) → i ≤ j → j < length rows
      → is_lt (cell_order (cell_at table (get_or rows j d) column) (cell_at table (get_or rows i d) column)) ≡ false

pub rise : (table : TableValue) (column : ℕ) (rows : List ℕ) → AreOrdered table column rows → Rise table column rows
rise table column rows o = record {
  inside =
      All-permutation (λ row. row < length table.rows) (row_numbers (length table.rows)) rows o.each_once
      (below (length table.rows));
  up =
      λ i j d le l. first_not_less _ _ (sorted_far (is_before table column) (rows_ranked table column) rows o.in_order i
      j d le l);
}

-- what lies below a low end comes first
pub below_first : (table : TableValue) → IsTable table → (column : ℕ) (rows : List ℕ) → Rise table column rows
    → (low : Bound) → FitsColumn table column low
    → IsPartitionedBy (lies_below table column low) rows
below_first table t column rows r Free f i j d le l h = absurd (false≢true h)
below_first table t column rows r (Closed end) f i j d le l h =
    let here = stands table t column (get_or rows i d) end.now f (r.inside i d (omega (arith, le, l))) in
    let there = stands table t column (get_or rows j d) end.now f (r.inside j d l) in
    let a = compared is_ge (cell_at table (get_or rows i d) column) end.now here in
    let b = compared is_ge (cell_at table (get_or rows j d) column) end.now there in
    let x = ge_not_less (cell_order (cell_at table (get_or rows i d) column) (Some end.now)) in
    let y = ge_not_less (cell_order (cell_at table (get_or rows j d) column) (Some end.now)) in
    ap not a
    ∙ (x ∙ less_first (cell_at table (get_or rows i d) column) (cell_at table (get_or rows j d) column) (Some end.now)
    (r.up i j d le l) (sym y ∙ (sym (ap not b) ∙ h)))
below_first table t column rows r (Strict end) f i j d le l h =
    let here = stands table t column (get_or rows i d) end.now f (r.inside i d (omega (arith, le, l))) in
    let there = stands table t column (get_or rows j d) end.now f (r.inside j d l) in
    let a = compared is_gt (cell_at table (get_or rows i d) column) end.now here in
    let b = compared is_gt (cell_at table (get_or rows j d) column) end.now there in
    let x = gt_back (cell_order (cell_at table (get_or rows i d) column) (Some end.now))
    ∙ ap (λ (o : Ordering). not (is_lt o)) (back (cell_at table (get_or rows i d) column) end.now) in
    let y = gt_back (cell_order (cell_at table (get_or rows j d) column) (Some end.now))
    ∙ ap (λ (o : Ordering). not (is_lt o)) (back (cell_at table (get_or rows j d) column) end.now) in
    ap not a
    ∙ (x ∙ not_more_first (cell_at table (get_or rows i d) column) (cell_at table (get_or rows j d) column)
    (Some end.now) (r.up i j d le l) (sym y ∙ (sym (ap not b) ∙ h)))

-- and so does what doesn't lie above a high end
pub up_to_first : (table : TableValue) → IsTable table → (column : ℕ) (rows : List ℕ) → Rise table column rows
    → (high : Bound) → FitsColumn table column high
    → IsPartitionedBy (lies_up_to table column high) rows
up_to_first table t column rows r Free f i j d le l h = refl
up_to_first table t column rows r (Closed end) f i j d le l h =
    let here = stands table t column (get_or rows i d) end.now f (r.inside i d (omega (arith, le, l))) in
    let there = stands table t column (get_or rows j d) end.now f (r.inside j d l) in
    let a = compared is_le (cell_at table (get_or rows i d) column) end.now here in
    let b = compared is_le (cell_at table (get_or rows j d) column) end.now there in
    let x = le_back (cell_order (cell_at table (get_or rows i d) column) (Some end.now))
    ∙ ap (λ (o : Ordering). not (is_lt o)) (back (cell_at table (get_or rows i d) column) end.now) in
    let y = le_back (cell_order (cell_at table (get_or rows j d) column) (Some end.now))
    ∙ ap (λ (o : Ordering). not (is_lt o)) (back (cell_at table (get_or rows j d) column) end.now) in
    a
    ∙ (x ∙ not_more_first (cell_at table (get_or rows i d) column) (cell_at table (get_or rows j d) column)
    (Some end.now) (r.up i j d le l) (sym y ∙ (sym b ∙ h)))
up_to_first table t column rows r (Strict end) f i j d le l h =
    let here = stands table t column (get_or rows i d) end.now f (r.inside i d (omega (arith, le, l))) in
    let there = stands table t column (get_or rows j d) end.now f (r.inside j d l) in
    let a = compared is_lt (cell_at table (get_or rows i d) column) end.now here in
    let b = compared is_lt (cell_at table (get_or rows j d) column) end.now there in
    a
    ∙ less_first (cell_at table (get_or rows i d) column) (cell_at table (get_or rows j d) column) (Some end.now)
    (r.up i j d le l) (sym b ∙ h)
