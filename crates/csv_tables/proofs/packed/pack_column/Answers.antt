use Rattle.std.proofs.Common.{◌≡◌, refl, ap, ◌∙◌, length, arith, rules, Some, w64}
use Rattle.std.proofs.lemmas.Int.{to_z-of_z}
use mir.Val.{SFits}
use Rattle.std.proofs.lemmas.Option.{slice_get_read}
use Rattle.row_values.specs.Values.{kind_of}
use Rattle.row_values.specs.declared.values.Kind.TheVariants as kind
use Rattle.csv_tables.proofs.PackedCells.{all_read, column_in_range, kept_fits, read_more}
use Rattle.csv_tables.proofs.Rows.{cell_place}
use Rattle.csv_tables.proofs.packed.pack_column.Goals as goal

pub unreachable-requires : goal.unreachable-requires
unreachable-requires c =
    let width = c.columns-width.ensures.value in
    let inside = column_in_range c.args.schema.now c.args.column kind.Int c.requires.kind in
    let place = rw (← c.requires.kept.full) at (cell_place c.args.row_count (length c.args.schema.now) c.loop-row.row
    c.args.column c.loop-row-test.true inside) in
    let read = rw width at c.index-cells-row.is in
    let fits = kept_fits c.args.schema.now c.args.row_count c.args.cells.now c.requires.kept c.loop-row.row
    c.args.column kind.Int c.index-cells-row.result
    c.loop-row-test.true c.requires.kind (slice_get_read c.args.cells.now _ _ c.index-cells-row.result refl place read)
    in
    let text = ap kind_of c.in-Text.is in
    cc

pub loop-row-preserved : goal.loop-row-preserved
loop-row-preserved c =
    let width = c.columns-width.ensures.value in
    let inside = column_in_range c.args.schema.now c.args.column kind.Int c.requires.kind in
    let place = rw (← c.requires.kept.full) at (cell_place c.args.row_count (length c.args.schema.now) c.loop-row.row
    c.args.column c.loop-row-test.true inside) in
    let read = rw width at c.index-cells-row.is in
    let at = slice_get_read c.args.cells.now _ _ c.index-cells-row.result refl place read ∙ ap Some c.in-Int.is in
    let fits : SFits w64 c.in-Int.number = search rules in
    rw (c.in_ok-push-in-Int.ensures.items, to_z-of_z w64 c.in-Int.number fits)
    (read_more _ _ _ _ _ _ c.loop-row.invariant (rw width at))

pub returns : goal.returns
returns c =
    let inside = column_in_range c.args.schema.now c.args.column kind.Int c.requires.kind in
    let width = c.columns-width.ensures.value in
    let rows : c.loop-row.row ≡ c.args.row_count = omega arith in
    let read = rw (width, rows) at c.loop-row.invariant in
    all_read c.args.schema.now c.args.row_count c.args.cells.now c.args.column c.loop-row.numbers.items inside read
