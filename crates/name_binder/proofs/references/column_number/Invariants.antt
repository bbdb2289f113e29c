use Rattle.std.proofs.Common.{◌≡◌, ◌+◌, drop}
use Rattle.name_binder.specs.References.{column_number}
use Rattle.name_binder.proofs.references.column_number.Given as goal

-- the columns that are left add the rest
abbrev pub invariant-loop-i : goal.invariant-loop-i
invariant-loop-i l = l.i + column_number l.name (drop l.i l.columns) ≡ column_number l.name l.columns
