use Rattle.std.proofs.Common.{◌≡◌, ◌++◌}
use Rattle.catalog_model.specs.Held.{present_versions}
use Rattle.session_store.specs.Kept.{tables_in}
use Rattle.session_store.proofs.store.Store.present.Given as goal

-- the versions so far, and those that are left
abbrev pub invariant-loop-name : goal.invariant-loop-name
invariant-loop-name l =
    l.versions.items ++ present_versions (tables_in l._name-iterator) ≡ present_versions l.self.catalog.tables
