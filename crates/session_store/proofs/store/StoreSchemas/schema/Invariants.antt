use Rattle.std.proofs.Common.{◌≡◌}
use Rattle.name_binder.specs.Catalog.{schema_named}
use Rattle.catalog_model.specs.Catalogs.{schemas_of}
use Rattle.session_store.specs.Kept.{tables_in}
use Rattle.session_store.proofs.store.StoreSchemas.schema.Given as goal

-- none of the tables so far
abbrev pub invariant-loop-name : goal.invariant-loop-name
invariant-loop-name l =
    schema_named l.table (schemas_of (tables_in l.name-iterator))
    ≡ schema_named l.table (schemas_of l.self.catalog.tables)
