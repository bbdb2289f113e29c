use Rattle.std.proofs.Common.{◌≡◌, ◌≤◌, drop}
use Rattle.csv_tables.specs.Tallies.{total_of}
use Rattle.csv_tables.proofs.shape.shape_of.Given as goal

-- the bytes that are left decide
abbrev pub invariant-loop-byte : goal.invariant-loop-byte
invariant-loop-byte l = record {
  total : total_of l.count (drop l.byte-index l.bytes) ≡ total_of l.initial.count l.bytes;
  rows : l.count.shape.row_count ≤ l.byte-index;
  fields : l.count.field_count ≤ l.byte-index;
}
