use Rattle.std.proofs.Common.{sym}
use Rattle.csv_tables.specs.StatementTables.{tables_in}
use Rattle.csv_tables.specs.Tables.{cell_at}
use Rattle.index_ranges.specs.Ranges.{rows_between}
use Rattle.plan_trees.specs.PlanSpace.{column_of}
use Rattle.row_tests.specs.Ready.{all_hold}
use Rattle.statement_meaning.specs.Conditions.{meets}
use Rattle.plan_operators.specs.Sources.{rows_read}
use Rattle.plan_operators.proofs.PlaceRows.{own_column, pred_at, ranged, ranged_rises, rows_there}
use Rattle.plan_operators.proofs.index_scan.range_scan.Goals as goal

pub ranges_of-ranges-requires : goal.ranges_of-ranges-requires
ranges_of-ranges-requires c =
    own_column c.table_there-table.result.now c.args.column c.index_there-index.result.now
    (c.requires.sound.indexes.built c.args.place c.args.column c.table_there-table.result.now
    c.index_there-index.result.now c.table_there-table.ensures c.index_there-index.ensures)

pub returns : goal.returns
returns c =
    let built = c.requires.sound.indexes.built c.args.place c.args.column c.table_there-table.result.now
    c.index_there-index.result.now c.table_there-table.ensures c.index_there-index.ensures in
    let here = rows_there (tables_in c.args.source.now.tables.now) c.args.place c.table_there-table.result.now
    (sym c.table_there-table.ensures) in
    let is = rw (c.deref.ensures.value, c.rows.ensures, c.as_slice.ensures) at c.in_ok-rows.ensures in
    record {
      each_once =
          ranged c.args.source.now.q.now (rows_read c.args.source.now) c.args.source.now.args.now
          (column_of c.args.place c.args.column) c.args.pred c.test_of-test.result.now
          (pred_at c.args.source.now.q.now.preds c.args.pred (column_of c.args.place c.args.column)
          c.test_of-test.result.now c.requires.pred c.test_of-test.ensures)
          c.table_there-table.result.now here
          (all_hold c.args.source.now.args.now c.table_there-table.result.now c.in_ok-ready.ready.items)
          (rw c.preds.ensures.value at c.in_ok-ready.ensures) c.index_there-index.result.now built
          (rows_between c.index_there-index.result.now.rows c.ranges_of-ranges.result) c.in_ok-rows.rows.items
          c.ranges_of-ranges.ensures.rows is;
      in_order =
          ranged_rises (rows_read c.args.source.now) (column_of c.args.place c.args.column)
          c.table_there-table.result.now c.index_there-index.result.now.rows
          (rows_between c.index_there-index.result.now.rows c.ranges_of-ranges.result) c.in_ok-rows.rows.items here
          built.rows_are
          (λ row. meets c.args.source.now.args.now c.test_of-test.result.now
          (cell_at c.table_there-table.result.now row c.index_there-index.result.now.column))
          (all_hold c.args.source.now.args.now c.table_there-table.result.now c.in_ok-ready.ready.items)
          c.ranges_of-ranges.ensures.rows is;
    }
