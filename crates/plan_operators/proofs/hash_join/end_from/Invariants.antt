use Rattle.std.proofs.Common.{ℕ, ◌≡◌, ◌<◌, ◌≤◌, ◌-◌, true, length, get_or}
use Rattle.std.specs.Prelude.{Option}
use Rattle.plan_operators.specs.BuildSides.{is_up_to}
use Rattle.plan_operators.specs.declared.columns.Cell.{Cell}
use Rattle.plan_operators.proofs.hash_join.end_from.Given as goal

-- no key from the first position up to this one lies above
abbrev pub invariant-loop-end : goal.invariant-loop-end
invariant-loop-end l = record {
  bound : l.end ≤ length l.keys;
  run : (k : ℕ) (d : Option Cell) → l.first ≤ k → k < l.end → is_up_to l.key (get_or l.keys k d) ≡ true;
}

abbrev pub decreases-loop-end : goal.decreases-loop-end
decreases-loop-end l = length l.keys - l.end
