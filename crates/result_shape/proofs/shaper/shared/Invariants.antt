use Rattle.std.proofs.Common.{◌≡◌, take}
use Rattle.csv_tables.specs.StatementTables.{tables_in}
use Rattle.result_shape.proofs.shaper.shared.Given as goal

abbrev pub invariant-loop-table : goal.invariant-loop-table
invariant-loop-table l = tables_in l.copies.items ≡ tables_in (take l.table-index l.tables)
