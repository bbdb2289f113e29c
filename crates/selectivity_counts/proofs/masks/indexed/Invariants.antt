use Rattle.std.proofs.Common.{◌≡◌, length, map, take}
use Rattle.table_index.specs.StatementIndexes.{entries_by_place, mask_of}
use Rattle.selectivity_counts.proofs.masks.indexed.Given as goal

-- the masks of the places so far
abbrev pub invariant-loop-place : goal.invariant-loop-place
invariant-loop-place l = record {
  long : length l.masks ≡ 5;
  value : take l.place l.masks ≡ map mask_of (take l.place (entries_by_place l.q.places l.indexes));
}
