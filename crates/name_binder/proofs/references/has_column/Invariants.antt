use Rattle.std.proofs.Common.{◌≡◌, drop}
use Rattle.row_values.specs.Columns.{is_name_in}
use Rattle.name_binder.proofs.references.has_column.Given as goal

-- the columns that are left decide
abbrev pub invariant-loop-column : goal.invariant-loop-column
invariant-loop-column l = is_name_in l.name (drop l.column-index l.columns) ≡ is_name_in l.name l.columns
