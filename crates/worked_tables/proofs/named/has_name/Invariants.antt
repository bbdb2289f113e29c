use Rattle.std.proofs.Common.{◌≡◌, drop}
use Rattle.name_binder.specs.Catalog.{is_known}
use Rattle.worked_tables.specs.Names.{known_by}
use Rattle.worked_tables.proofs.named.has_name.Given as goal

-- the tables that are left decide
abbrev pub invariant-loop-named : goal.invariant-loop-named
invariant-loop-named l =
    is_known l.name (known_by (drop l.named-index l.tables)) ≡ is_known l.name (known_by l.tables)
