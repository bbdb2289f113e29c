use Rattle.std.proofs.Common.{ℕ, ◌<◌, slice_index}
use Rattle.plan_trees.specs.Statistics.{IsWithin}
use Rattle.worked_statements.proofs.soundness.are_each_within.Given as goal

abbrev pub invariant-loop-k : goal.invariant-loop-k
invariant-loop-k l = (j : ℕ) → j < l.k → IsWithin (slice_index l.limits j) (slice_index l.numbers j)
