use Rattle.std.proofs.Common.{◌≡◌, ◌≤◌, ◌-◌, [], drop, slice_index_or}
use Rattle.table_index.specs.StatementIndexes.{entries_by_place}
use Rattle.table_index.proofs.statement_indexes.entries_of.Given as goal

-- the places that are left take the entries that are left
abbrev pub invariant-loop-number : goal.invariant-loop-number
invariant-loop-number l =
    (l.number ≤ l.place)
    × (slice_index_or (entries_by_place (drop l.number l.places) l.rest) (l.place - l.number) []
    ≡ slice_index_or (entries_by_place l.places l.indexes) l.place [])
