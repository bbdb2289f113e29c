use Rattle.std.proofs.Common.{take}
use Rattle.session_store.specs.Kept.{AreHeld}
use Rattle.session_store.proofs.store.Store.held_of.Given as goal

-- what is held of the places so far
abbrev pub invariant-loop-place : goal.invariant-loop-place
invariant-loop-place l = AreHeld l.self.catalog.tables (take l.place-index l.places) l.held.items
