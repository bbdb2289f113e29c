-- The rows of a table in the order of a column are one list.
use Rattle.std.proofs.Common.{ℕ, ◌≡◌, List, length, arith}
use Rattle.std.specs.Cmp.{nat_cmp_total}
use Rattle.std.proofs.lemmas.Bool.Decides.{nat_tests}
use Rattle.std.specs.declared.cmp.Ordering.{Ordering}
use Rattle.std.specs.declared.cmp.Ordering.TheVariants.{Less, Equal, Greater}
use Rattle.std.specs.Ordering.{nat_cmp, ordering_then}
use Rattle.std.proofs.lemmas.Cmp.{then_total, on_total}
use Rattle.row_values.specs.RowNumbers.{row_numbers}
use Rattle.row_values.proofs.Counting.{exact_numbers}
use Rattle.row_values.proofs.InOrder.{IsFullOrder, full_order_from, sorted_is}
use Rattle.row_values.proofs.TotalOrders.{cell_order_total}
use Rattle.csv_tables.specs.Tables.{TableValue, cell_at}
use Rattle.row_values.specs.Orders.{cell_order}
use Rattle.table_index.specs.Indexes.{AreOrdered, is_before, row_order, rows_in_order}

last_equal : (o n : Ordering) → ordering_then o n ≡ Equal → n ≡ Equal
last_equal Less n e = cc
last_equal Equal n e = e
last_equal Greater n e = cc

one_number : (a b : ℕ) → nat_cmp a b ≡ Equal → a ≡ b
one_number a b e = grind (arith, nat_tests)

-- only a row itself ties with it
pub only_itself : (table : TableValue) (column : ℕ) → IsFullOrder (is_before table column)
only_itself table column =
    full_order_from (row_order table column)
    (then_total (on_total (λ (row : ℕ). cell_at table row column) cell_order_total)
    (on_total (λ (row : ℕ). row) nat_cmp_total))
    (λ a b e. one_number a b (last_equal (cell_order (cell_at table a column) (cell_at table b column))
    (nat_cmp a b) e))

pub ordered_is : (table : TableValue) (column : ℕ) (rows : List ℕ) → AreOrdered table column rows
    → rows ≡ rows_in_order table column
ordered_is table column rows o =
    sorted_is _ exact_numbers (is_before table column) (only_itself table column) (row_numbers (length table.rows)) rows
    o.each_once o.in_order
