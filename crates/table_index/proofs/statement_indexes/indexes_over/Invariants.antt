use Rattle.std.proofs.Common.{◌≡◌, ◌++◌, drop}
use Rattle.csv_tables.specs.StatementTables.{tables_in}
use Rattle.table_index.specs.StatementIndexes.{indexes_in, wanted_entries}
use Rattle.table_index.proofs.statement_indexes.indexes_over.Given as goal

-- what is there, and what the tables that are left will add
abbrev pub invariant-loop-place : goal.invariant-loop-place
invariant-loop-place l =
    indexes_in l.entries.items ++ wanted_entries l.wanted l.place (tables_in (drop l.place l.tables))
    ≡ wanted_entries l.wanted 0 (tables_in l.tables)
