use Rattle.std.proofs.Common.{◌≡◌, ◌++◌, drop}
use Rattle.table_index.specs.StatementIndexes.{indexes_in}
use Rattle.session_store.specs.Kept.{entries_of}
use Rattle.session_store.proofs.held.indexes_of.Given as goal

-- the entries so far, and those that are left
abbrev pub invariant-loop-one : goal.invariant-loop-one
invariant-loop-one l = indexes_in l.indexes.items ++ entries_of (drop l.one-index l.held) ≡ entries_of l.held
