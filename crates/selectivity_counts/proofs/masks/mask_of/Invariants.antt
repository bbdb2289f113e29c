use Rattle.std.proofs.Common.{◌≡◌, ◌<◌, ◌+◌, ◌*◌, ◌^◌, drop}
use Rattle.table_index.specs.StatementIndexes.{mask_of}
use Rattle.selectivity_counts.proofs.masks.mask_of.Given as goal

-- the bits so far, and those of the entries that are left
abbrev pub invariant-loop-column : goal.invariant-loop-column
invariant-loop-column l = record {
  small : l.mask < 2 ^ l.column;
  value : l.mask + 2 ^ l.column * mask_of (drop l.column l.entries) ≡ mask_of l.entries;
}
