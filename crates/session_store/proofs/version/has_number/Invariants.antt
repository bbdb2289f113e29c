use Rattle.std.proofs.Common.{◌≡◌, drop}
use Rattle.catalog_model.specs.Held.{has_number}
use Rattle.session_store.proofs.version.has_number.Given as goal

-- none of the versions so far
abbrev pub invariant-loop-version : goal.invariant-loop-version
invariant-loop-version l = has_number l.number (drop l.version-index l.versions) ≡ has_number l.number l.versions
