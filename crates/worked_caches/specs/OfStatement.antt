-- What makes the contents of a cache those of one statement and its statistics.
use Rattle.std.specs.Prelude.{ℕ, ◌≤◌, List, All}
use Rattle.row_values.specs.Statements.{Statement}
use Rattle.plan_trees.specs.Statistics.{Statistics, IsSoundVector}
use Rattle.cache_model.specs.Caches.{Anchor}
use Rattle.anchor_cache.specs.declared.kept_plans.Kept.{Kept}
use Rattle.anchor_cache.specs.Instances.{HasCostAt}

-- the plan has a cost at each sound vector
abbrev pub HasCosts : Statement → Statistics → Kept → Type 0
HasCosts q s kept = (vector : List ℕ) → IsSoundVector q s vector → HasCostAt vector kept

-- plans have their costs, anchors have sound vectors, and none is of a later execution
pub record IsOfStatement (q : Statement) (s : Statistics) (plans : List Kept) (anchors : List Anchor)
    (executions : ℕ) : Type 0 where
  pub costs : All (HasCosts q s) plans
  pub vectors : All (λ anchor. IsSoundVector q s anchor.at) anchors
  pub executed : All (λ anchor. anchor.execution ≤ executions) anchors
