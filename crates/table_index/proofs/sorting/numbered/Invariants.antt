use Rattle.std.proofs.Common.{◌≡◌, All, Some, map, slice_get}
use Rattle.row_values.specs.RowNumbers.{row_numbers}
use Rattle.table_index.proofs.sorting.numbered.Given as goal

-- the rows so far stand beside their numbers
abbrev pub invariant-loop-row : goal.invariant-loop-row
invariant-loop-row l = record {
  rows : map (λ pair. pair.1) l.pairs.items ≡ row_numbers l.row;
  numbers : All (λ pair. slice_get l.numbers pair.1 ≡ Some pair.0) l.pairs.items;
}
