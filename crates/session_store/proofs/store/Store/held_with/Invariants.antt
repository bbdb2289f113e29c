use Rattle.std.proofs.Common.{take}
use Rattle.session_store.specs.Kept.{AreHeld, put_held}
use Rattle.session_store.proofs.store.Store.held_with.Given as goal

-- what is held of the places so far
abbrev pub invariant-loop-place : goal.invariant-loop-place
invariant-loop-place l = AreHeld (put_held l.self.catalog.tables l.name l.new) (take l.place-index l.places)
    l.held.items
