use Rattle.std.proofs.Common.{◌≡◌, ◌++◌, drop, filter_map}
use Rattle.catalog_model.specs.Catalogs.{find_version}
use Rattle.session_store.proofs.store.Store.versions_at.Given as goal

-- the versions so far, and those that are left
abbrev pub invariant-loop-place : goal.invariant-loop-place
invariant-loop-place l =
    l.versions.items
    ++ filter_map (λ place. find_version l.self.catalog.tables place.table) (drop l.place-index l.places)
    ≡ filter_map (λ place. find_version l.self.catalog.tables place.table) l.places
