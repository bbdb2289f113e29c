use Rattle.std.proofs.Common.{[], refl, slice_index_or}
use Rattle.csv_tables.specs.StatementTables.{rows_in, tables_in}
use Rattle.row_tests.specs.Ready.{all_hold}
use Rattle.statement_meaning.specs.Conditions.{row_passes}
use Rattle.plan_operators.proofs.PlaceRows.{rows_missing, rows_there, scanned}
use Rattle.plan_operators.proofs.seq_scan.seq_scan.Goals as goal

pub returns-in_ok-rows-in-Some : goal.returns-in_ok-rows-in-Some
returns-in_ok-rows-in-Some c =
    let tests = rw c.preds.ensures.value at c.in_ok-ready-in-Some.ensures in
    let rows = rw c.as_slice.ensures.value at c.in_ok-rows-in-Some.ensures in
    record {
      each_once =
          scanned c.args.source.now.q.now (rows_in (tables_in c.args.source.now.tables.now))
          c.args.source.now.args.now c.args.place c.in-Some.table.now.rows
          (all_hold c.args.source.now.args.now c.in-Some.table.now c.in_ok-ready-in-Some.ready.items)
          c.in_ok-rows-in-Some.rows.items
          (rows_there (tables_in c.args.source.now.tables.now) c.args.place c.in-Some.table.now c.in-Some.ensures) tests
          rows;
    }

pub returns-in-None : goal.returns-in-None
returns-in-None c = record {
  each_once =
      scanned c.args.source.now.q.now (rows_in (tables_in c.args.source.now.tables.now)) c.args.source.now.args.now
      c.args.place []
      (λ row. row_passes c.args.source.now.args.now c.args.source.now.q.now.preds c.args.place (slice_index_or [] row []))
      c.new.result.items (rows_missing (tables_in c.args.source.now.tables.now) c.args.place c.in-None.ensures)
      (λ row. refl) c.new.ensures.items;
}
