use Rattle.std.proofs.Common.{◌≡◌, ℕ, List, [], ap, sym, ◌∙◌, get_or, refl, slice_get, slice_index_or}
use Rattle.row_values.specs.declared.values.Value.{Value}
use Rattle.csv_tables.specs.StatementTables.{rows_in, tables_in}
use Rattle.statement_meaning.specs.Combinations.{row_at}
use Rattle.plan_operators.specs.Columns.{cell_read}
use Rattle.plan_operators.specs.declared.columns.ColumnCells.{ColumnCells}
use Rattle.plan_operators.proofs.PlaceRows.{rows_missing, rows_there}
use Rattle.plan_operators.proofs.columns.column_of.Goals as goal
use Rattle.plan_operators.proofs.columns.column_of.Goals.{in-Some, in-None}

cells_are : (c : goal.Joined-table_of) (row : ℕ)
    → cell_read c.match-table_of.cells row
    ≡ slice_get (row_at (rows_in (tables_in c.args.tables.now)) c.args.at.place row) c.args.at.column
cells_are c row = elim c.match-table_of.branch [
  | in-Some w ↦
      ap (λ (cells : ColumnCells). cell_read cells row) w.cells-is
      ∙ (w.cells_of-cells.ensures row
      ∙ (ap (λ (n : ℕ). slice_get (slice_index_or w.in-Some.table.now.rows row []) n) w.from.ensures
      ∙ ap (λ (here : List (List Value)). slice_get (slice_index_or here row []) c.args.at.column)
      (sym (rows_there (tables_in c.args.tables.now) c.args.at.place w.in-Some.table.now w.in-Some.ensures))))
  | in-None w ↦
      ap (λ (cells : ColumnCells). cell_read cells row) w.cells-is
      ∙ ap (λ (here : List (List Value)). slice_get (slice_index_or here row []) c.args.at.column)
      (sym (rows_missing (tables_in c.args.tables.now) c.args.at.place w.in-None.ensures))
]

pub returns : goal.returns
returns c = record {
  place = refl;
  cells = cells_are c;
  value = λ combo. cells_are c (get_or combo c.args.at.place 0);
}
