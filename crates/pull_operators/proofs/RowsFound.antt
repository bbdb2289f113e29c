-- The rows that the key of a combination finds in an index are those of the place whose cells equal it.
use Rattle.std.proofs.Common.{ℕ, ◌≡◌, Bool, List, [], slice_get, slice_index_or, ap, sym, ◌∙◌, Option, None}
use Rattle.std.specs.Prelude.{filter}
use Rattle.std.specs.Ordering.{is_eq}
use Rattle.std.proofs.lemmas.List.Elements.{filter_agree}
use Rattle.row_values.specs.Orders.{compares}
use Rattle.row_values.specs.Statements.{Statement}
use Rattle.row_values.specs.declared.statement.ColRef.{ColRef}
use Rattle.row_values.specs.declared.values.Value.{Value}
use Rattle.csv_tables.specs.Tables.{TableValue, cell_at}
use Rattle.row_tests.proofs.PackedTests.{cell_of_row}
use Rattle.statement_meaning.specs.Combinations.{row_at, rows_at}
use Rattle.statement_meaning.specs.Conditions.{row_passes}
use Rattle.statement_meaning.specs.Meaning.{cell_of}
use Rattle.statement_meaning.proofs.EqualCells.{none_by_key}
use Rattle.pull_operators.specs.Pieces.{rows_found}
use Rattle.pull_operators.specs.declared.index_join.IndexJoin.{IndexJoin}

pub found_is : (q : Statement) (tables : List (List (List Value))) (args : List Value) (place column : ℕ)
    (table key_table : TableValue) (key : ColRef) (holds : ℕ → Bool) (own : ℕ) (rows : List ℕ)
    → rows_at tables place ≡ table.rows → rows_at tables key.place ≡ key_table.rows → own ≡ column
    → ((row : ℕ) → holds row ≡ row_passes args q.preds place (slice_index_or table.rows row [])) → (c : List ℕ)
    → filter holds
    (filter (λ row. compares is_eq
    (slice_get (slice_index_or key_table.rows (slice_index_or c key.place 0) []) key.column) (cell_at table row own))
    rows)
    ≡ filter (λ row. row_passes args q.preds place (row_at tables place row))
    (filter (λ row. compares is_eq (cell_of tables c key) (slice_get (row_at tables place row) column)) rows)
found_is q tables args place column table key_table key holds own rows here there same tests c =
    filter_agree holds (λ row. row_passes args q.preds place (row_at tables place row))
    (λ row. tests row
    ∙ ap (λ (rows : List (List Value)). row_passes args q.preds place (slice_index_or rows row [])) (sym here))
    (filter (λ row. compares is_eq
    (slice_get (slice_index_or key_table.rows (slice_index_or c key.place 0) []) key.column) (cell_at table row own))
    rows)
    ∙ ap (filter (λ row. row_passes args q.preds place (row_at tables place row)))
    (filter_agree
    (λ row. compares is_eq
    (slice_get (slice_index_or key_table.rows (slice_index_or c key.place 0) []) key.column) (cell_at table row own))
    (λ row. compares is_eq (cell_of tables c key) (slice_get (row_at tables place row) column))
    (λ row. ap (λ (rows : List (List Value)). compares is_eq
    (slice_get (slice_index_or rows (slice_index_or c key.place 0) []) key.column) (cell_at table row own)) (sym there)
    ∙ ap (compares is_eq (cell_of tables c key))
    (ap (cell_at table row) same
    ∙ sym
    (ap (λ (rows : List (List Value)). slice_get (slice_index_or rows row []) column) here
    ∙ sym (cell_of_row table.rows row column))))
    rows)

-- a key that isn't there finds nothing
pub none_found : (join : IndexJoin) (c : List ℕ)
    → slice_get (slice_index_or join.key_table.now.rows (slice_index_or c join.key.place 0) []) join.key.column ≡ None
    → rows_found join c ≡ []
none_found join c e =
    ap (λ (key : Option Value). filter (λ row. compares is_eq key
    (cell_at join.table.now row join.index.now.column)) join.index.now.rows) e
    ∙ none_by_key (λ row. cell_at join.table.now row join.index.now.column) join.index.now.rows
