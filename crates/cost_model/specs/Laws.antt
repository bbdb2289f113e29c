-- What the laws of costs say, for all statements, statistics and vectors.
use Rattle.std.specs.Prelude.{ℕ, ◌≡◌, ◌<◌, ◌≤◌, ◌*◌, ◌^◌, Bool, false, List, length, All, Some, IsSome}
use Rattle.row_values.specs.Statements.{Statement, IsSoundQuery, selectivity_count}
use Rattle.plan_trees.specs.PlanSpace.{IsValidPlan, IsValidTop}
use Rattle.plan_trees.specs.Statistics.{Statistics, IsSoundStats, IsSoundVector}
use Rattle.plan_trees.specs.Trees.{Tree, TopTree}
use Rattle.cost_polynomials.specs.Growth.{grown_to, grown_from, shrunk_to, shrunk_from}
use Rattle.cost_model.specs.Checks.{PassesSelectivityCheck, PassesCostCheck}
use Rattle.cost_model.specs.Costs.{plan_cost, top_cost}
use Rattle.cost_model.specs.LeastCost.{Table, IsPlaceSet, IsLeastCost, IsTight, IsTightCell, IsFeasible, FitsTable}

pub record HasLeastCost (q : Statement) (s : Statistics) (vector : List ℕ) : Type 0 where
  pub least : ℕ
  pub is_least : IsLeastCost q s vector least

-- a sound statement has a valid top, and of all valid ones some costs least
abbrev pub LeastCostLaw : Type 0
LeastCostLaw = (q : Statement) (s : Statistics) (vector : List ℕ) → IsSoundQuery q → HasLeastCost q s vector

-- a tight table that has a number for each set of places, since each has a plan
pub record HasTightTable (q : Statement) (s : Statistics) (vector : List ℕ) : Type 0 where
  pub table : Table
  pub least : ℕ
  pub is_tight : IsTight q s vector table least
  pub each_reached : (set : ℕ) → IsPlaceSet q set → IsSome (table false set)

-- a sound statement has a tight table
abbrev pub TightTableLaw : Type 0
TightTableLaw = (q : Statement) (s : Statistics) (vector : List ℕ) → IsSoundQuery q → HasTightTable q s vector

-- from the anchor to the instance a cost grows by at most the growth of the selectivities, and shrinks by at most
-- their shrinking
pub record GrowsWithin (instance anchor : List ℕ) (cost_at_instance cost_at_anchor : ℕ) : Type 0 where
  pub grows : cost_at_instance * grown_from instance anchor ≤ cost_at_anchor * grown_to instance anchor
  pub shrinks : cost_at_anchor * shrunk_to instance anchor ≤ cost_at_instance * shrunk_from instance anchor

-- a vector with a number for each parameterised predicate
abbrev pub IsVectorOf : Statement → List ℕ → Type 0
IsVectorOf q vector = length vector ≡ selectivity_count q.preds

abbrev pub GrowthLaw : Type 0
GrowthLaw =
    (q : Statement) (s : Statistics) (top : TopTree) (instance anchor : List ℕ) → IsValidTop q s.indexed top
    → IsVectorOf q instance → IsVectorOf q anchor
    → GrowsWithin instance anchor (top_cost q s instance top) (top_cost q s anchor top)

abbrev pub LeastGrowthLaw : Type 0
LeastGrowthLaw =
    (q : Statement) (s : Statistics) (instance anchor : List ℕ) (least_at_instance least_at_anchor : ℕ)
    → IsVectorOf q instance → IsVectorOf q anchor
    → IsLeastCost q s instance least_at_instance → IsLeastCost q s anchor least_at_anchor
    → GrowsWithin instance anchor least_at_instance least_at_anchor

abbrev pub LowerBoundLaw : Type 0
LowerBoundLaw =
    (q : Statement) (s : Statistics) (vector : List ℕ) (table : Table) (least : ℕ) (top : TopTree)
    → IsFeasible q s vector table → FitsTable q s vector table least
    → IsValidTop q s.indexed top → least ≤ top_cost q s vector top

abbrev pub TightIsFeasible : Type 0
TightIsFeasible =
    (q : Statement) (s : Statistics) (vector : List ℕ) (table : Table) (least : ℕ) → IsTight q s vector table least
    → IsFeasible q s vector table × FitsTable q s vector table least

-- a cost that fits: at least 1, and far enough below 2 ^ 128 for a few sums
pub record IsCost (cost : ℕ) : Type 0 where
  pub low : 1 ≤ cost
  pub high : cost < 2 ^ 124

-- with sound numbers the costs of plans fit, and so do the cells of a tight table
pub record CostsFit (q : Statement) (s : Statistics) (vector : List ℕ) : Type 0 where
  pub tops : (top : TopTree) → IsValidTop q s.indexed top → IsCost (top_cost q s vector top)
  pub plans : (plan : Tree) → IsValidPlan q s.indexed plan → IsCost (plan_cost q s vector plan)
  pub cells : (sorted : Bool) (set cost : ℕ) → IsTightCell q s vector sorted set (Some cost) → IsCost cost

abbrev pub CostRangeLaw : Type 0
CostRangeLaw =
    (q : Statement) (s : Statistics) (vector : List ℕ) → IsSoundQuery q → IsSoundStats q s → IsSoundVector q s vector
    → CostsFit q s vector

-- a valid top to be used again at the instance, and the least costs there and at the anchor
pub record IsReuse (q : Statement) (s : Statistics) (top : TopTree) (instance anchor : List ℕ)
    (least_at_instance least_at_anchor : ℕ) : Type 0 where
  pub valid : IsValidTop q s.indexed top
  pub instance_vector : IsVectorOf q instance
  pub anchor_vector : IsVectorOf q anchor
  pub anchor_counts : All (λ count. 1 ≤ count) anchor
  pub least_there : IsLeastCost q s instance least_at_instance
  pub least_known : IsLeastCost q s anchor least_at_anchor

-- where a check passes, the cost at the instance is within the ratio of the least cost there
abbrev pub SelectivityCheckLaw : Type 0
SelectivityCheckLaw =
    (q : Statement) (s : Statistics) (top : TopTree) (instance anchor : List ℕ)
    (num den least_at_instance least_at_anchor : ℕ) → IsReuse q s top instance anchor least_at_instance least_at_anchor
    → PassesSelectivityCheck num den (top_cost q s anchor top) least_at_anchor anchor instance
    → top_cost q s instance top * den ≤ num * least_at_instance

abbrev pub CostCheckLaw : Type 0
CostCheckLaw =
    (q : Statement) (s : Statistics) (top : TopTree) (instance anchor : List ℕ)
    (num den least_at_instance least_at_anchor : ℕ) → IsReuse q s top instance anchor least_at_instance least_at_anchor
    → PassesCostCheck num den (top_cost q s instance top) least_at_anchor anchor instance
    → top_cost q s instance top * den ≤ num * least_at_instance
