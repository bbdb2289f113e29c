use Rattle.std.proofs.Common.{◌≡◌, drop}
use Rattle.row_values.specs.Statements.{is_alias_in}
use Rattle.row_values.proofs.statement.has_alias.Given as goal

-- the places that are left decide
abbrev pub invariant-loop-place : goal.invariant-loop-place
invariant-loop-place l = is_alias_in l.alias (drop l.place-index l.places) ≡ is_alias_in l.alias l.places
