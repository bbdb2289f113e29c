use Rattle.std.proofs.Common.{◌≡◌, drop}
use Rattle.row_values.specs.Columns.{are_names}
use Rattle.row_values.proofs.columns.names_differ.Given as goal

-- the columns that are left decide
abbrev pub invariant-loop-i : goal.invariant-loop-i
invariant-loop-i l = are_names (drop l.i l.columns) ≡ are_names l.columns
