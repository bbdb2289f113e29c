use Rattle.std.proofs.Common.{◌≡◌, ◌≤◌, take}
use Rattle.std.specs.Ordering.{int_cmp, is_eq}
use Rattle.table_index.specs.Distinct.{distinct_count}
use Rattle.table_index.proofs.distinct.distinct_sorted.Given as goal

-- the distinct ones so far are counted
abbrev pub invariant-loop-position : goal.invariant-loop-position
invariant-loop-position l = record {
  counted : l.count ≡ distinct_count (λ a b. is_eq (int_cmp a b)) (take l.position l.numbers);
  few : l.count ≤ l.position;
}
