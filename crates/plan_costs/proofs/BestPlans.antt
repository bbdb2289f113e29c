-- What an optimiser answers is an optimum.
use Rattle.std.proofs.Common.{ℕ, List}
use Rattle.row_values.specs.Statements.{Statement}
use Rattle.plan_trees.specs.Statistics.{Statistics}
use Rattle.plan_trees.specs.Trees.{top_tree}
use Rattle.plan_costs.specs.BestPlans.{IsBest, IsOptimum}
use Rattle.plan_costs.specs.declared.planner.Best.{Best}

pub best_is_optimum : (q : Statement) (s : Statistics) (vector : List ℕ) (best : Best) → IsBest q s vector best
    → IsOptimum q s vector (top_tree best.plan.value) best.cost best.potentials
best_is_optimum q s vector best h = record {
  valid = h.valid;
  costs = h.costs;
  least = h.least;
  one_each = h.one_each;
  tight = h.tight;
  same = h.same;
}
