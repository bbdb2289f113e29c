use Rattle.std.proofs.Common.{◌≡◌, take}
use Rattle.csv_tables.specs.StatementTables.{tables_in}
use Rattle.session_store.specs.Kept.{contents_of}
use Rattle.session_store.proofs.held.tables_of.Given as goal

abbrev pub invariant-loop-one : goal.invariant-loop-one
invariant-loop-one l = tables_in l.tables.items ≡ contents_of (take l.one-index l.held)
