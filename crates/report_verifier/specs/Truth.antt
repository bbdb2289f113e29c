-- What the ledger of a walk has at every line: it is true of the tables and indexes as they are now.
use Rattle.std.specs.Prelude.{ℕ, ◌≡◌, ◌≤◌, List, length, slice_get, Some}
use Rattle.row_values.specs.Statements.{Statement}
use Rattle.plan_trees.specs.Statistics.{Statistics}
use Rattle.catalog_model.specs.Catalogs.{Catalog, StatementState, stats_now}
use Rattle.certificate_check.specs.Ledgers.{IsTrueLedger}
use Rattle.certificate_check.specs.declared.entries.Entry.{Entry}

pub record IsTrueIn (catalog : Catalog) (ledger : List Entry) : Type 0 where
  -- the entries of a statement have least costs under its present statistics
  pub of_each : (number : ℕ) (prepared : StatementState) → slice_get catalog.statements number ≡ Some prepared
      → IsTrueLedger prepared.statement (stats_now catalog.tables catalog.weights prepared.statement) number ledger
  -- of statements that are to come there is none, so whatever these are, it is true of them
  pub of_none : (number : ℕ) → length catalog.statements ≤ number → (q : Statement) (s : Statistics)
      → IsTrueLedger q s number ledger
