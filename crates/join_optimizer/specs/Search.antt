-- The search: what each part of it does to what was found of a set.
use Rattle.std.specs.Prelude.{ℕ, ◌≡◌, ◌<◌, ◌≤◌, ◌+◌, ◌*◌, Bool, List, length, slice_index_or, slice_get, Some, None}
use Rattle.std.specs.Prelude.{IsTrue}
use Rattle.row_values.specs.Statements.{Statement}
use Rattle.plan_trees.specs.declared.plans.Access.{Access}
use Rattle.plan_trees.specs.declared.plans.StepKind.{StepKind}
use Rattle.plan_trees.specs.PlanSpace.{is_sorted_access}
use Rattle.plan_trees.specs.Statistics.{Statistics}
use Rattle.cost_model.specs.Costs.{access_unit, step_cost}
use Rattle.cost_model.specs.LeastCost.{AtMost, Costs, IsFeasibleAt}
use Rattle.plan_trees.specs.declared.scale.TheConstants.{COST_SCALE}
use Rattle.join_optimizer.specs.declared.found.Cheapest.{Cheapest}
use Rattle.join_optimizer.specs.Found.{AreFound, cost_in, nothing, plan_in, table_of}

-- what was at most a number stays at most it
abbrev pub Keeps : Costs → Costs → Type 0
Keeps before after = (sorted : Bool) (cost : ℕ) → AtMost (before sorted) cost → AtMost (after sorted) cost

-- the plans of the sets below this number were found, and none is undercut
pub record AreCheapest (q : Statement) (s : Statistics) (vector : List ℕ) (cells : List Cheapest)
    (count : ℕ) : Type 0 where
  pub counted : length cells ≡ count
  pub none_of_none : (sorted : Bool) → table_of cells sorted 0 ≡ None
  pub found : (set : ℕ) → AreFound q s vector set (plan_in (slice_index_or cells set nothing))
  pub feasible : (set : ℕ) → 0 < set → set < count → IsFeasibleAt q s vector (table_of cells) set

-- What one part of the search does to what was found of a set.

-- Nothing gets dearer, what is there after is a valid plan of the set, and this holds of its costs.
pub record Offered (q : Statement) (s : Statistics) (vector : List ℕ) (set : ℕ) (Taken : Costs → Type 0)
    (before after : Cheapest) : Type 0 where
  pub keeps : Keeps (cost_in before) (cost_in after)
  pub found : AreFound q s vector set (plan_in after)
  pub taken : Taken (cost_in after)

abbrev pub TakesAccess : Statement → Statistics → List ℕ → Access → Costs → Type 0
TakesAccess q s vector access costs =
    (sorted : Bool) → (IsTrue sorted → IsTrue (is_sorted_access q access))
    → AtMost (costs sorted) (COST_SCALE * access_unit q s vector access)

abbrev pub TakesStep : Statement → Statistics → List ℕ → Costs → ℕ → StepKind → Costs → Type 0
TakesStep q s vector outer from step costs =
    (sorted : Bool) (cost : ℕ) → AtMost (outer sorted) cost
    → AtMost (costs sorted) (cost + step_cost q s vector from step)

-- each of the first so many items of a list was taken
abbrev pub TakesEach : {A : Type 0} → (A → Costs → Type 0) → List A → ℕ → Costs → Type 0
TakesEach Takes items count costs = (position : ℕ) (item : _) → position < count → slice_get items position ≡ Some item
    → Takes item costs

-- each item that this holds of was taken
abbrev pub TakesAll : {A : Type 0} → (A → Type 0) → (A → Costs → Type 0) → Costs → Type 0
TakesAll P Takes costs = (item : _) → P item → Takes item costs

-- each number from the low one to below the high one was taken
abbrev pub TakesBetween : (ℕ → Costs → Type 0) → ℕ → ℕ → Costs → Type 0
TakesBetween Takes low high costs = (number : ℕ) → low ≤ number → number < high → Takes number costs
