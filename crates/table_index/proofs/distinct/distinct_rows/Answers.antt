use Rattle.std.proofs.Common.{◌≡◌, ◌<◌, ◌+◌, length, take}
use Rattle.std.proofs.lemmas.List.{get_or-map, length-map}
use Rattle.csv_tables.specs.Tables.{cell_at}
use Rattle.table_index.specs.Distinct.{cells_of, distinct_count, is_same_cell}
use Rattle.table_index.proofs.Changes.{byte-is, count_few, count_more}
use Rattle.table_index.proofs.distinct.distinct_rows.Goals as goal

pub loop-position-preserved : goal.loop-position-preserved
loop-position-preserved c =
    let d = cell_at c.args.t.now 0 c.args.column in
    let inside : c.loop-position.position < length (cells_of c.args.t.now c.args.column c.args.rows.now) =
    rw length-map c.loop-position-test.true in
    let here = get_or-map (λ row. cell_at c.args.t.now row c.args.column) c.args.rows.now c.loop-position.position 0 d
    c.loop-position-test.true in
    let more = rw here at (count_more is_same_cell (cells_of c.args.t.now c.args.column c.args.rows.now)
    c.loop-position.position d inside) in
    let few = count_few is_same_cell (cells_of c.args.t.now c.args.column c.args.rows.now)
    (c.loop-position.position + 1) in
    let counted : c.loop-position.count + c.from-count.result
    ≡ distinct_count is_same_cell
    (take (c.loop-position.position + 1) (cells_of c.args.t.now c.args.column c.args.rows.now)) =
    rw (c.from-count.ensures, c.is_new_cell.ensures, c.loop-position.invariant.counted, byte-is) more in
    record { counted = counted; few = rw counted few }
