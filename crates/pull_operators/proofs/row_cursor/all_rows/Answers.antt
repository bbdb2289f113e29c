use Rattle.std.proofs.Common.{◌∙◌, ℕ, List, ap, sym, slice_index_or, []}
use Rattle.std.specs.Prelude.{filter}
use Rattle.csv_tables.specs.StatementTables.{tables_in}
use Rattle.row_values.specs.RowNumbers.{row_numbers}
use Rattle.row_values.specs.declared.values.Value.{Value}
use Rattle.statement_meaning.specs.Conditions.{row_passes}
use Rattle.plan_operators.specs.Sources.{rows_read}
use Rattle.plan_operators.proofs.PlaceRows.{rows_there, scanned}
use Rattle.pull_operators.proofs.row_cursor.all_rows.Goals as goal

pub returns : goal.returns
returns c =
    let here = rows_there (tables_in c.args.source.now.tables.now) c.args.place c.table_there-table.result.now
    (sym c.table_there-table.ensures) in
    record {
      within = tt;
      each_once =
          λ tests same. scanned c.args.source.now.q.now (rows_read c.args.source.now) c.args.source.now.args.now
          c.args.place c.table_there-table.result.now.rows tests _ here
          (λ row. same row
          ∙ ap (λ (rows : List (List Value)). row_passes c.args.source.now.args.now c.args.source.now.q.now.preds
          c.args.place (slice_index_or rows row [])) here)
          (ap (λ (n : ℕ). filter tests (row_numbers n)) c.len.ensures.value);
      in_order = λ tests. tt;
    }
