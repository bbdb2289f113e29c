-- The least cost of a statement, and tables of lower bounds: tight ones, and feasible ones.
use Rattle.std.specs.Prelude.{ℕ, ◌≡◌, ◌<◌, ◌≤◌, ◌+◌, ◌*◌, ◌^◌, Bool, true, false, IsTrue, List, length, Option, Some}
use Rattle.std.specs.Prelude.{None}
use Rattle.row_values.specs.Statements.{Statement}
use Rattle.plan_trees.specs.declared.plans.Access.{Access}
use Rattle.plan_trees.specs.declared.plans.StepKind.{StepKind}
use Rattle.plan_trees.specs.PlaceSets.{one, all_below}
use Rattle.plan_trees.specs.PlanSpace.{IsValidAccess, IsValidStep, IsValidHashJoin, IsValidPlan, IsValidTop}
use Rattle.plan_trees.specs.PlanSpace.{IsSortedPlan, has_all_keys, is_grouped, is_sorted_access, wanted_order}
use Rattle.plan_trees.specs.PlanSpace.{wants_order}
use Rattle.plan_trees.specs.Statistics.{Statistics}
use Rattle.plan_trees.specs.Trees.{Tree, TopTree, place_of, place_entering, places_of}
use Rattle.cost_model.specs.Cardinalities.{card_of}
use Rattle.cost_model.specs.Costs.{access_unit, step_cost, join_cost, sort_cost, plan_cost, top_cost}
use Rattle.plan_trees.specs.declared.scale.TheConstants.{COST_SCALE}

-- a valid top that costs this
pub record IsReached (q : Statement) (s : Statistics) (vector : List ℕ) (cost : ℕ) : Type 0 where
  pub top : TopTree
  pub valid : IsValidTop q s.indexed top
  pub costs : top_cost q s vector top ≡ cost

-- some valid top costs this, and none costs less
pub record IsLeastCost (q : Statement) (s : Statistics) (vector : List ℕ) (least : ℕ) : Type 0 where
  pub reached : IsReached q s vector least
  pub below_all : (top : TopTree) → IsValidTop q s.indexed top → least ≤ top_cost q s vector top

-- Tables: a number for each set of places, of all its plans at `false`, and at `true` of those in the wanted
-- order. None stands for infinity.

abbrev pub Table : Type 0
Table = Bool → ℕ → Option ℕ

-- a number or infinity is at most a number
abbrev pub AtMost : Option ℕ → ℕ → Type 0
AtMost None number = ⊥
AtMost (Some bound) number = bound ≤ number

-- some places of the statement, at least one
pub record IsPlaceSet (q : Statement) (set : ℕ) : Type 0 where
  pub some : 0 < set
  pub there : set < 2 ^ length q.places

-- Tight tables.

-- a valid plan of exactly these places, in the wanted order at `true`
pub record IsPlanOf (q : Statement) (s : Statistics) (sorted : Bool) (set : ℕ) (plan : Tree) : Type 0 where
  pub valid : IsValidPlan q s.indexed plan
  pub whole : places_of plan ≡ set
  pub in_order : IsTrue sorted → IsSortedPlan q plan

pub record IsCheapest (q : Statement) (s : Statistics) (vector : List ℕ) (sorted : Bool) (set cost : ℕ) : Type 0 where
  pub plan : Tree
  pub fits : IsPlanOf q s sorted set plan
  pub costs : plan_cost q s vector plan ≡ cost
  pub below_all : (other : Tree) → IsPlanOf q s sorted set other → cost ≤ plan_cost q s vector other

-- the cell is the least cost of such plans, or none where there is no such plan
abbrev pub IsTightCell : Statement → Statistics → List ℕ → Bool → ℕ → Option ℕ → Type 0
IsTightCell q s vector sorted set None = (plan : Tree) → ¬ IsPlanOf q s sorted set plan
IsTightCell q s vector sorted set (Some cost) = IsCheapest q s vector sorted set cost

pub record IsTight (q : Statement) (s : Statistics) (vector : List ℕ) (table : Table) (least : ℕ) : Type 0 where
  pub cells : (sorted : Bool) (set : ℕ) → IsPlaceSet q set → IsTightCell q s vector sorted set (table sorted set)
  pub least_cost : IsLeastCost q s vector least

-- Feasible tables.

-- two numbers or infinities that may stand for a set: of all its plans at `false`, and at `true` of those in the
-- wanted order
abbrev pub Costs : Type 0
Costs = Bool → Option ℕ

-- no more than what an access of this place costs, if it is the whole set, and what a step that takes in this place
-- costs over the table's plans of the others
pub record TakesPlace (q : Statement) (s : Statistics) (vector : List ℕ) (table : Table) (set place : ℕ)
    (costs : Costs) : Type 0 where
  pub access : (sorted : Bool) (access : Access) → IsValidAccess q s.indexed access → place_of access ≡ place
      → one place ≡ set
      → (IsTrue sorted → IsTrue (is_sorted_access q access))
      → AtMost (costs sorted) (COST_SCALE * access_unit q s vector access)
  pub step : (sorted : Bool) (from cost : ℕ) (step : StepKind) → 0 < from → from + one place ≡ set
      → IsValidStep q s.indexed from step
      → place_entering step ≡ place → AtMost (table sorted from) cost
      → AtMost (costs sorted) (cost + step_cost q s vector from step)

-- no more than what a hash join with this inner side costs, over the table's plans of both sides
abbrev pub TakesSplit : Statement → Statistics → List ℕ → Table → ℕ → ℕ → Costs → Type 0
TakesSplit q s vector table set right costs =
    (sorted : Bool) (left edge outer inner : ℕ) → left + right ≡ set → IsValidHashJoin q left right edge
    → AtMost (table sorted left) outer → AtMost (table false right) inner
    → AtMost (costs sorted) (outer + inner + join_cost q s vector left right)

-- sorted, no more than what a sort costs over any plan of the set
abbrev pub TakesSort : Statement → Statistics → List ℕ → ℕ → Costs → Type 0
TakesSort q s vector set costs =
    (cost : ℕ) → IsTrue (wants_order q) → IsTrue (has_all_keys set (wanted_order q)) → AtMost (costs false) cost
    → AtMost (costs true) (cost + sort_cost q s vector set)

-- the numbers may stand for the set: none is above what a last access, step, hash join or sort makes of the table's
-- plans of fewer places
pub record IsFeasiblePotential (q : Statement) (s : Statistics) (vector : List ℕ) (table : Table) (set : ℕ)
    (costs : Costs) : Type 0 where
  pub places : (place : ℕ) → place < length q.places → TakesPlace q s vector table set place costs
  pub splits : (right : ℕ) → 0 < right → right < set → TakesSplit q s vector table set right costs
  pub sort : TakesSort q s vector set costs

-- all inequalities of a set: those with its cells on the left
abbrev pub IsFeasibleAt : Statement → Statistics → List ℕ → Table → ℕ → Type 0
IsFeasibleAt q s vector table set = IsFeasiblePotential q s vector table set (λ sorted. table sorted set)

abbrev pub IsFeasible : Statement → Statistics → List ℕ → Table → Type 0
IsFeasible q s vector table = (set : ℕ) → IsPlaceSet q set → IsFeasibleAt q s vector table set

abbrev pub whole_set : Statement → ℕ
whole_set q = all_below (length q.places)

-- the number is at most what a top makes of the cells of all places
pub record FitsTable (q : Statement) (s : Statistics) (vector : List ℕ) (table : Table) (least : ℕ) : Type 0 where
  pub rows : (cost : ℕ) → is_grouped q ≡ false → AtMost (table (wants_order q) (whole_set q)) cost → least ≤ cost
  pub sorted_groups : (cost : ℕ) → is_grouped q ≡ true → AtMost (table true (whole_set q)) cost
      → least ≤ cost + s.weights.row * card_of q s vector (whole_set q)
  pub hash_groups : (cost : ℕ) → is_grouped q ≡ true → AtMost (table false (whole_set q)) cost
      → least ≤ cost + s.weights.hash * card_of q s vector (whole_set q)
