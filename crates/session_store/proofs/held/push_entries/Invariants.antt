use Rattle.std.proofs.Common.{◌≡◌, ◌++◌, take}
use Rattle.table_index.specs.StatementIndexes.{indexes_in}
use Rattle.session_store.proofs.held.push_entries.Given as goal

abbrev pub invariant-loop-entry : goal.invariant-loop-entry
invariant-loop-entry l =
    indexes_in l.entries.items ≡ indexes_in l.fn.entries.items ++ indexes_in (take l.entry-index l.more)
