-- Finished plans with their costs.
use Rattle.std.specs.Prelude.{ℕ, ◌≡◌, ◌+◌, nat_lt, List, Option, Some, None, if◌then◌else◌}
use Rattle.row_values.specs.Statements.{Statement}
use Rattle.plan_trees.specs.PlanSpace.{IsValidTop}
use Rattle.plan_trees.specs.Statistics.{Statistics}
use Rattle.plan_trees.specs.Trees.{TopTree, Rows, SortedGroups, HashGroups, top_tree}
use Rattle.cost_model.specs.Costs.{top_cost}
use Rattle.cost_model.specs.LeastCost.{FitsTable}
use Rattle.join_optimizer.specs.declared.found.Cheapest.{Cheapest}
use Rattle.join_optimizer.specs.declared.tops.Finished.{Finished}
use Rattle.join_optimizer.specs.Found.{Priced, cost_in}

pub record PricedTop : Type 0 where
  pub top : TopTree
  pub cost : ℕ

abbrev pub seen_top : Finished → PricedTop
seen_top finished = record { top = top_tree finished.top; cost = finished.cost }

-- the rows as they come
abbrev pub as_rows : Option Priced → Option PricedTop
as_rows None = None
as_rows (Some found) = Some (record { top = Rows found.plan; cost = found.cost })

abbrev pub in_sorted_groups : ℕ → Option Priced → Option PricedTop
in_sorted_groups cost None = None
in_sorted_groups cost (Some found) = Some (record { top = SortedGroups found.plan; cost = found.cost + cost })

abbrev pub in_hash_groups : ℕ → Option Priced → Option PricedTop
in_hash_groups cost None = None
in_hash_groups cost (Some found) = Some (record { top = HashGroups found.plan; cost = found.cost + cost })

-- the first, unless the second costs less
abbrev pub cheaper_top : Option PricedTop → Option PricedTop → Option PricedTop
cheaper_top first None = first
cheaper_top None (Some second) = Some second
cheaper_top (Some first) (Some second) = if nat_lt second.cost first.cost then Some second else Some first

-- a valid top and its cost
pub record IsTopOf (q : Statement) (s : Statistics) (vector : List ℕ) (finished : PricedTop) : Type 0 where
  pub valid : IsValidTop q s.indexed finished.top
  pub costs : top_cost q s vector finished.top ≡ finished.cost

-- and no top over the cheapest plans of all places costs less
pub record IsCheapestTop (q : Statement) (s : Statistics) (vector : List ℕ) (whole : Cheapest)
    (finished : PricedTop) : Type 0 where
  pub stands : IsTopOf q s vector finished
  pub fits : FitsTable q s vector (λ sorted set. cost_in whole sorted) finished.cost
