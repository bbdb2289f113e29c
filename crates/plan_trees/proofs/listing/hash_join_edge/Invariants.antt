use Rattle.std.proofs.Common.{ℕ, ◌<◌}
use Rattle.plan_trees.specs.PlanSpace.{IsValidHashJoin}
use Rattle.plan_trees.proofs.listing.hash_join_edge.Given as goal

-- no edge so far will do
abbrev pub invariant-loop-edge : goal.invariant-loop-edge
invariant-loop-edge l = (edge : ℕ) → edge < l.edge → ¬ IsValidHashJoin l.q l.left l.right edge
