use Rattle.std.proofs.Common.{◌≡◌, drop}
use Rattle.catalog_model.specs.Catalogs.{reads_table}
use Rattle.session_store.proofs.store.is_read.Given as goal

-- none of the places so far
abbrev pub invariant-loop-place : goal.invariant-loop-place
invariant-loop-place l = reads_table l.table (drop l.place-index l.places) ≡ reads_table l.table l.places
