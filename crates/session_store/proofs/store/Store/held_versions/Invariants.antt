use Rattle.std.proofs.Common.{◌≡◌, ◌++◌, drop}
use Rattle.catalog_model.specs.Held.{held_by}
use Rattle.session_store.proofs.store.Store.held_versions.Given as goal

-- the versions so far, and those that are left
abbrev pub invariant-loop-cursor : goal.invariant-loop-cursor
invariant-loop-cursor l =
    l.versions.items ++ held_by (drop l.cursor-index l.self.cursors) ≡ held_by l.self.cursors
