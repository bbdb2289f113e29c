-- What is asked of the two numbers of a set's cell: to be no more than what plans are made for.
use Rattle.std.specs.Prelude.{ℕ, ◌≡◌, ◌<◌, ◌≤◌, ◌+◌, ◌*◌, ◌^◌, Bool, true, false, IsTrue, List, length}
use Rattle.row_values.specs.Statements.{Statement}
use Rattle.plan_trees.specs.declared.plans.Access.{Access}
use Rattle.plan_trees.specs.PlanSpace.{is_sorted_access}
use Rattle.plan_trees.specs.Statistics.{Statistics}
use Rattle.cost_model.specs.Cardinalities.{card_of}
use Rattle.cost_model.specs.LeastCost.{AtMost, Costs, IsFeasibleAt, IsPlaceSet, Table, whole_set}
use Rattle.plan_costs.specs.BestPlans.{in_cell}
use Rattle.plan_costs.specs.declared.potentials.Cell.{Cell}

-- the cell's numbers: of all plans at `false`, of those in the wanted order at `true`
abbrev pub costs_of : Cell → Costs
costs_of cell sorted = in_cell sorted cell

-- no more than what an access costs; the number for the wanted order is asked where the access gives that order
abbrev pub TakesAccess : Statement → Access → ℕ → Costs → Type 0
TakesAccess q access cost costs =
    (sorted : Bool) → (IsTrue sorted → IsTrue (is_sorted_access q access)) → AtMost (costs sorted) cost

-- no more than what so much more makes of the outer plans
abbrev pub TakesOver : Costs → ℕ → Costs → Type 0
TakesOver outer more costs =
    (sorted : Bool) (cost : ℕ) → AtMost (outer sorted) cost → AtMost (costs sorted) (cost + more)

-- no more than what so much more makes of the plans of two sides, of which the outer one keeps its order
abbrev pub TakesBoth : Costs → Costs → ℕ → Costs → Type 0
TakesBoth outer inner more costs =
    (sorted : Bool) (outer_cost inner_cost : ℕ) → AtMost (outer sorted) outer_cost → AtMost (inner false) inner_cost
    → AtMost (costs sorted) (outer_cost + inner_cost + more)

-- the number is at most what groups make of the plans of all places: of sorted rows as they come, of others by a hash
-- table
pub record FitsGroups (q : Statement) (s : Statistics) (vector : List ℕ) (whole : Costs) (least : ℕ) : Type 0 where
  pub sorted : (cost : ℕ) → AtMost (whole true) cost
      → least ≤ cost + s.weights.row * card_of q s vector (whole_set q)
  pub hashed : (cost : ℕ) → AtMost (whole false) cost
      → least ≤ cost + s.weights.hash * card_of q s vector (whole_set q)

-- one cell for each set of places but the empty one
abbrev pub HasEachCell : Statement → List Cell → Type 0
HasEachCell q cells = length cells + 1 ≡ 2 ^ length q.places

-- the least set whose inequalities don't all hold
pub record IsLeastFailing (q : Statement) (s : Statistics) (vector : List ℕ) (table : Table) (set : ℕ) : Type 0 where
  pub there : IsPlaceSet q set
  pub fails : ¬ IsFeasibleAt q s vector table set
  pub none_below : (below : ℕ) → IsPlaceSet q below → below < set → IsFeasibleAt q s vector table below
