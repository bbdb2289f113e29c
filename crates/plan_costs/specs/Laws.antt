-- What the law of best plans says, for all statements, statistics and vectors.
use Rattle.std.specs.Prelude.{ℕ, List}
use Rattle.row_values.specs.Statements.{Statement, IsSoundQuery}
use Rattle.plan_trees.specs.Statistics.{Statistics}
use Rattle.plan_trees.specs.Trees.{TopTree}
use Rattle.plan_costs.specs.BestPlans.{IsOptimum}
use Rattle.plan_costs.specs.LowerBounds.{LowerBounds}

pub record HasOptimum (q : Statement) (s : Statistics) (vector : List ℕ) : Type 0 where
  pub top : TopTree
  pub cost : ℕ
  pub bounds : LowerBounds
  pub is_optimum : IsOptimum q s vector top cost bounds

-- a sound statement has a plan of least cost, and a list of cells whose table is tight
abbrev pub OptimumLaw : Type 0
OptimumLaw = (q : Statement) (s : Statistics) (vector : List ℕ) → IsSoundQuery q → HasOptimum q s vector
