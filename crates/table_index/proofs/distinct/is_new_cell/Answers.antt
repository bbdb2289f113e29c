use Rattle.std.proofs.Common.{◌<◌, ◌-◌, arith, length}
use Rattle.std.proofs.lemmas.List.{get_or-map, length-map}
use Rattle.csv_tables.specs.Tables.{cell_at}
use Rattle.table_index.specs.Distinct.{cells_of}
use Rattle.row_values.specs.Orders.{cell_order}
use Rattle.table_index.proofs.Changes.{new_by_last}
use Rattle.row_values.proofs.TotalOrders.{cell_order_total}
use Rattle.table_index.proofs.Orders.{cells_rise}
use Rattle.table_index.proofs.distinct.is_new_cell.Goals as goal

pub returns-else-position-eq0 : goal.returns-else-position-eq0
returns-else-position-eq0 c =
    let short : c.args.position - 1 < length c.args.rows.now = omega arith in
    let d = cell_at c.args.t.now 0 c.args.column in
    let inside : c.args.position < length (cells_of c.args.t.now c.args.column c.args.rows.now) =
    rw length-map c.requires.position in
    let last = get_or-map (λ row. cell_at c.args.t.now row c.args.column) c.args.rows.now (c.args.position - 1) 0 d
    short in
    let here = get_or-map (λ row. cell_at c.args.t.now row c.args.column) c.args.rows.now c.args.position 0 d
    c.requires.position in
    let new = rw (last, here) at
    (new_by_last cell_order cell_order_total (cells_of c.args.t.now c.args.column c.args.rows.now)
    (cells_rise c.args.t.now c.args.column c.args.rows.now c.requires.in_order) c.args.position d
    c.if-position-eq0.false inside) in
    rw c.has_same_cell.ensures new
