use Rattle.std.proofs.Common.{◌≡◌, ◌≤◌, length, take}
use Rattle.std.specs.Prelude.{filter}
use Rattle.row_tests.specs.NumberTests.{number_holds}
use Rattle.selectivity_counts.proofs.counts.count_numbers.Given as goal

-- the numbers so far are counted
abbrev pub invariant-loop-number : goal.invariant-loop-number
invariant-loop-number l = record {
  value : l.count ≡ length (filter (number_holds l.range.test) (take l.number-index l.numbers));
  few : l.count ≤ l.number-index;
}
