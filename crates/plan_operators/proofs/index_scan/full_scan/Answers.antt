use Rattle.std.proofs.Common.{sym, subst}
use Rattle.csv_tables.specs.StatementTables.{tables_in}
use Rattle.plan_trees.specs.PlanSpace.{column_of}
use Rattle.row_tests.specs.Ready.{all_hold}
use Rattle.row_values.specs.Sorting.{Rises}
use Rattle.plan_operators.specs.Sources.{is_row_before, rows_read}
use Rattle.plan_operators.proofs.PlaceRows.{found_once, index_rises, rows_there}
use Rattle.plan_operators.proofs.index_scan.full_scan.Goals as goal

pub returns : goal.returns
returns c =
    let built = c.requires.sound.indexes.built c.args.place c.args.column c.table_there-table.result.now
    c.index_there-index.result.now c.table_there-table.ensures c.index_there-index.ensures in
    let here = rows_there (tables_in c.args.source.now.tables.now) c.args.place c.table_there-table.result.now
    (sym c.table_there-table.ensures) in
    let is = rw (c.new-rows.ensures.items, c.deref.ensures.value, c.rows.ensures) at c.in_ok-push_passing.ensures in
    record {
      each_once =
          found_once c.args.source.now.q.now (rows_read c.args.source.now) c.args.source.now.args.now c.args.place
          c.table_there-table.result.now.rows
          (all_hold c.args.source.now.args.now c.table_there-table.result.now c.in_ok-ready.ready.items)
          c.index_there-index.result.now.rows c.push_passing.new.into.items here
          (rw c.preds.ensures.value at c.in_ok-ready.ensures) built.rows_are.each_once is;
      in_order =
          subst (Rises (is_row_before c.args.source.now (column_of c.args.place c.args.column))) (sym is)
          (index_rises (rows_read c.args.source.now) (column_of c.args.place c.args.column)
          c.table_there-table.result.now c.index_there-index.result.now.rows here built.rows_are
          (all_hold c.args.source.now.args.now c.table_there-table.result.now c.in_ok-ready.ready.items));
    }
