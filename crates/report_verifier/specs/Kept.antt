-- What a verifier keeps, as the state of the walk that contracts see.
use Rattle.std.specs.Prelude.{ℕ, ◌≡◌, ◌≤◌, ◌+◌, List, drop, length}
use Rattle.fraction_math.specs.Fraction.{Fraction}
use Rattle.certificate_check.specs.declared.entries.Entry.{Entry}
use Rattle.report_items.specs.declared.items.ReportItem.{ReportItem}
use Rattle.session_store.specs.Kept.{StoreState}
use Rattle.report_verifier.specs.Truth.{IsTrueIn}
use Rattle.report_verifier.specs.Walk.{Walk}

-- the items up to this position are done
abbrev pub walk_of : StoreState → List Entry → ℕ → ℕ → List ReportItem → ℕ → Fraction → Walk
walk_of store ledger executions too_large items position lambda = record {
  catalog = store.catalog;
  cursors = store.cursors;
  ledger = ledger;
  executions = executions;
  too_large = too_large;
  items = drop position items;
  lambda = lambda;
}

-- the statements are counted, each item that is done counts once, and the ledger is true
pub record IsKept (store : StoreState) (statements : ℕ) (ledger : List Entry) (executions too_large : ℕ)
    (items : List ReportItem) (position : ℕ) (lambda : Fraction) : Type 0 where
  pub counted : statements ≡ length store.catalog.statements
  pub done : executions + too_large ≡ position
  pub within : position ≤ length items
  pub ratio : lambda.den ≤ lambda.num
  pub truth : IsTrueIn store.catalog ledger
