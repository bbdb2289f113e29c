use Rattle.std.proofs.Common.{◌≡◌, take}
use Rattle.session_store.specs.Kept.{put_held}
use Rattle.session_store.specs.Measures.{measures_of}
use Rattle.session_store.proofs.store.Store.measures_with.Given as goal

-- the measures of the statements so far
abbrev pub invariant-loop-statement : goal.invariant-loop-statement
invariant-loop-statement l =
    l.measures.items
    ≡ measures_of (put_held l.self.catalog.tables l.name l.new) l.self.catalog.weights
    (take l.statement l.self.catalog.statements)
