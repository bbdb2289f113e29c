use Rattle.session_engine.proofs.ClearedCaches.{AreClearedTo}
use Rattle.session_engine.proofs.clearing.clear_for.Given as goal

-- those up to here are done
abbrev pub invariant-loop-number : goal.invariant-loop-number
invariant-loop-number l = AreClearedTo l.number l.table l.store.catalog.statements l.fn.caches l.caches
