-- When a cache is faithful: what it holds is true of its statement and of the statistics.
use Rattle.std.specs.Prelude.{ℕ, ◌≡◌, ◌≢◌, ◌<◌, ◌≤◌, ◌^◌, IsTrue, List, [], length, All, AllPairs, Some}
use Rattle.row_values.specs.Statements.{Statement}
use Rattle.plan_trees.specs.PlanSpace.{IsValidTop}
use Rattle.plan_trees.specs.Statistics.{Statistics, IsSoundVector, IsWithin, weighted_size}
use Rattle.plan_trees.specs.Trees.{TopTree}
use Rattle.cost_model.specs.Costs.{top_cost}
use Rattle.cost_model.specs.LeastCost.{IsLeastCost}
use Rattle.cache_model.specs.Caches.{Anchor, CachedPlan, CacheState, has_anchor, top_numbered}
use Rattle.cache_model.specs.declared.limits.TheConstants.{ANCHOR_LIMIT}

-- the statistics have too great a size: the statement isn't executed
abbrev pub IsWide : Statement → Statistics → Type 0
IsWide q s = 2 ^ 63 < weighted_size q.preds 0 s.rows

-- a plan of the list is valid, has an anchor, and its number was given before the next
pub record IsFaithfulPlan (q : Statement) (s : Statistics) (anchors : List Anchor) (next_plan : ℕ)
    (plan : CachedPlan) : Type 0 where
  pub valid : IsValidTop q s.indexed plan.top
  pub anchored : IsTrue (has_anchor anchors plan.number)
  pub given : plan.number < next_plan

-- an anchor has a sound vector and a plan of the list, and its two costs are those of this plan and the least there; it
-- is of one of so many executions, and has served some of them
pub record IsFaithfulAnchor (q : Statement) (s : Statistics) (plans : List CachedPlan) (executions : ℕ)
    (anchor : Anchor) : Type 0 where
  pub vector : IsSoundVector q s anchor.at
  pub top : TopTree
  pub there : top_numbered plans anchor.plan ≡ Some top
  pub plan_cost : anchor.plan_cost ≡ top_cost q s anchor.at top
  pub least : IsLeastCost q s anchor.at anchor.least
  pub execution : anchor.execution ≤ executions
  pub uses : IsWithin executions anchor.uses

-- after so many executions, with this budget of plans
pub record IsFaithfulCache (cache : CacheState) (q : Statement) (s : Statistics) (executions budget : ℕ) : Type 0 where
  pub plans : All (IsFaithfulPlan q s cache.anchors cache.next_plan) cache.plans
  pub anchors : All (IsFaithfulAnchor q s cache.plans executions) cache.anchors
  pub numbers_rise : AllPairs (λ a b. a.number < b.number) cache.plans
  pub executions_rise : AllPairs (λ a b. a.execution < b.execution) cache.anchors
  pub no_two_same : AllPairs (λ a b. a.top ≢ b.top) cache.plans
  pub few_plans : length cache.plans ≤ budget
  pub few_anchors : length cache.anchors ≤ ANCHOR_LIMIT
  pub no_plan_if_wide : IsWide q s → cache.plans ≡ []
  pub no_anchor_if_wide : IsWide q s → cache.anchors ≡ []
