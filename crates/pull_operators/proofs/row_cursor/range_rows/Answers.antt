use Rattle.std.proofs.Common.{◌∙◌, List, ap, refl, sym, slice_index_or, []}
use Rattle.csv_tables.specs.StatementTables.{tables_in}
use Rattle.csv_tables.specs.Tables.{cell_at}
use Rattle.index_ranges.specs.Ranges.{rows_between}
use Rattle.row_values.specs.declared.values.Value.{Value}
use Rattle.plan_trees.specs.PlanSpace.{column_of}
use Rattle.statement_meaning.specs.Conditions.{meets, row_passes}
use Rattle.plan_operators.specs.Sources.{rows_read}
use Rattle.plan_operators.proofs.PlaceRows.{own_column, pred_at, ranged, ranged_rises, rows_there}
use Rattle.pull_operators.proofs.row_cursor.range_rows.Goals as goal

pub ranges_of-ranges-requires : goal.ranges_of-ranges-requires
ranges_of-ranges-requires c =
    own_column c.table_there-table.result.now c.args.column c.index_there-index.result.now
    (c.requires.sound.indexes.built c.args.place c.args.column c.table_there-table.result.now
    c.index_there-index.result.now c.table_there-table.ensures c.index_there-index.ensures)

pub returns : goal.returns
returns c =
    let built = c.requires.sound.indexes.built c.args.place c.args.column c.table_there-table.result.now
    c.index_there-index.result.now c.table_there-table.ensures c.index_there-index.ensures in
    let here = rows_there (tables_in c.args.source.now.tables.now) c.args.place c.table_there-table.result.now
    (sym c.table_there-table.ensures) in
    let ranges = c.in_ok-ranges.ensures.items_if_clones_equal (λ x y h i. (h.0 i, h.1 i)) ∙ c.as_slice.ensures in
    let found = (λ i. rows_between (c.rows.ensures i) (ranges i)) ∙ c.ranges_of-ranges.ensures.rows in
    record {
      within = rw (c.rows.ensures, ranges) c.ranges_of-ranges.ensures.in_range;
      each_once =
          λ tests same. ranged c.args.source.now.q.now (rows_read c.args.source.now) c.args.source.now.args.now
          (column_of c.args.place c.args.column) c.args.pred c.test_of-test.result.now
          (pred_at c.args.source.now.q.now.preds c.args.pred (column_of c.args.place c.args.column)
          c.test_of-test.result.now c.requires.valid.2 c.test_of-test.ensures)
          c.table_there-table.result.now here tests
          (λ row. same row
          ∙ ap (λ (rows : List (List Value)). row_passes c.args.source.now.args.now c.args.source.now.q.now.preds
          c.args.place (slice_index_or rows row [])) here)
          c.index_there-index.result.now built _ _ found refl;
      in_order =
          λ tests. ranged_rises (rows_read c.args.source.now) (column_of c.args.place c.args.column)
          c.table_there-table.result.now c.index_there-index.result.now.rows _ _ here built.rows_are
          (λ row. meets c.args.source.now.args.now c.test_of-test.result.now
          (cell_at c.table_there-table.result.now row c.index_there-index.result.now.column)) tests found refl;
    }
