use Rattle.std.proofs.Common.{◌≡◌, take, map}
use Rattle.plan_trees.specs.PlanSpace.{ascending}
use Rattle.plan_operators.proofs.keys.ascending_keys.Given as goal

abbrev pub invariant-loop-column : goal.invariant-loop-column
invariant-loop-column l = l.keys.items ≡ map ascending (take l.column-index l.columns)
