use Rattle.std.proofs.Common.{◌≡◌, None, map, take}
use Rattle.table_index.specs.StatementIndexes.{indexes_in}
use Rattle.session_store.proofs.held.no_indexes.Given as goal

abbrev pub invariant-loop-column : goal.invariant-loop-column
invariant-loop-column l = indexes_in l.indexes.items ≡ map (λ column. None) (take l._column-index l.columns)
