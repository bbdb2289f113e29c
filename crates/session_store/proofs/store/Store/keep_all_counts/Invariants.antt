use Rattle.std.proofs.Common.{◌≡◌}
use Rattle.session_store.proofs.store.Store.keep_all_counts.Given as goal

-- nothing that is told has changed
abbrev pub invariant-loop-place : goal.invariant-loop-place
invariant-loop-place l = l.self ≡ l.fn.self
