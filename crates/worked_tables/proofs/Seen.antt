-- What contracts see of a worked statement.
use Rattle.std.proofs.Common.{ℕ, ◌≡◌, ◌∙◌, List, ap}
use Rattle.std.specs.declared.rc.Rc.{Rc}
use Rattle.row_values.specs.Sorting.{in_order}
use Rattle.row_values.specs.Statements.{Statement}
use Rattle.row_values.specs.declared.values.Value.{Value}
use Rattle.csv_tables.specs.StatementTables.{rows_in, tables_in}
use Rattle.csv_tables.specs.Tables.{TableValue}
use Rattle.statement_meaning.specs.Combinations.{kept_combinations}
use Rattle.statement_meaning.specs.Meaning.{is_lower}
use Rattle.worked_tables.specs.Fitting.{Posed}

abbrev posed : Statement → List (List (List Value)) → List Value → Posed
posed q tables args = record { statement = q; tables = tables; args = args }

-- the combinations of a run are those of the statement that is seen
pub seen : {Z : Type 0} (q : Statement) (shared items : List (Rc TableValue Z)) (lent args : List Value)
    (combos : List (List ℕ)) (p : Posed)
    → in_order is_lower combos ≡ kept_combinations q (rows_in (tables_in shared)) lent → shared ≡ items → lent ≡ args
    → posed q (rows_in (tables_in items)) args ≡ p
    → in_order is_lower combos ≡ kept_combinations p.statement p.tables p.args
seen {Z = Z} q shared items lent args combos p once e f view =
    once
    ∙ (ap (λ (t : List (Rc TableValue Z)). kept_combinations q (rows_in (tables_in t)) lent) e
    ∙ (ap (kept_combinations q (rows_in (tables_in items))) f
    ∙ ap (λ (k : Posed). kept_combinations k.statement k.tables k.args) view))
