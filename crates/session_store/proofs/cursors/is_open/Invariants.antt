use Rattle.std.proofs.Common.{◌≡◌, drop}
use Rattle.catalog_model.specs.Held.{is_open}
use Rattle.session_store.proofs.cursors.is_open.Given as goal

-- none of the cursors so far
abbrev pub invariant-loop-cursor : goal.invariant-loop-cursor
invariant-loop-cursor l = is_open l.name (drop l.cursor-index l.cursors) ≡ is_open l.name l.cursors
