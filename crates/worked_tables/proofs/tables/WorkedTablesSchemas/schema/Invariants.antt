use Rattle.std.proofs.Common.{◌≡◌, drop}
use Rattle.name_binder.specs.Catalog.{schema_named}
use Rattle.worked_tables.specs.Names.{known_by}
use Rattle.worked_tables.proofs.tables.WorkedTablesSchemas.schema.Given as goal

-- none of the tables so far
abbrev pub invariant-loop-named : goal.invariant-loop-named
invariant-loop-named l =
    schema_named l.table (known_by (drop l.named-index l.self.tables.items))
    ≡ schema_named l.table (known_by l.self.tables.items)
