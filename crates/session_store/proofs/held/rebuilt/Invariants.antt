use Rattle.std.proofs.Common.{◌≡◌, length, take}
use Rattle.table_index.specs.StatementIndexes.{indexes_in}
use Rattle.session_store.specs.Kept.{AreBuilt, flags_of}
use Rattle.session_store.proofs.held.rebuilt.Given as goal

-- the columns so far have an index where they had one, and it was built of this table
abbrev pub invariant-loop-column : goal.invariant-loop-column
invariant-loop-column l = record {
  count : length l.indexes.items ≡ l.column;
  flags : flags_of (indexes_in l.indexes.items) ≡ take l.column (flags_of (indexes_in l.before));
  built : AreBuilt l.table (indexes_in l.indexes.items);
}
