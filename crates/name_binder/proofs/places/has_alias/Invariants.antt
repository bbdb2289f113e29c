use Rattle.std.proofs.Common.{◌≡◌, drop}
use Rattle.name_binder.specs.Refusals.{is_alias_among}
use Rattle.name_binder.proofs.places.has_alias.Given as goal

-- the entries that are left decide
abbrev pub invariant-loop-entry : goal.invariant-loop-entry
invariant-loop-entry l = is_alias_among l.alias (drop l.entry-index l.earlier) ≡ is_alias_among l.alias l.earlier
