use Rattle.std.proofs.Common.{◌≡◌, length, take}
use Rattle.index_ranges.specs.Ranges.{rows_between}
use Rattle.index_ranges.proofs.test_ranges.count_in_ranges.Given as goal

-- the rows of the ranges so far
abbrev pub invariant-loop-range : goal.invariant-loop-range
invariant-loop-range l = l.count ≡ length (rows_between l.index.rows (take l.range-index l.range-items))
