-- The cheapest access of a place, and the cheapest step that takes it in.
use Rattle.std.specs.Prelude.{ℕ, ◌≡◌, ◌≤◌, ◌<◌, List, length, slice_index_or}
use Rattle.row_values.specs.Statements.{Statement}
use Rattle.plan_trees.specs.declared.plans.Access.{Access}
use Rattle.plan_trees.specs.declared.plans.StepKind.{StepKind}
use Rattle.plan_trees.specs.Lists.{IsAccessOf, IsStepInto}
use Rattle.plan_trees.specs.Statistics.{Statistics}
use Rattle.cost_model.specs.Costs.{access_unit}
use Rattle.plan_costs.specs.Units.{unit_of_step}
use Rattle.plan_costs.specs.declared.cheapest_accesses.PricedAccess.{PricedAccess}
use Rattle.plan_costs.specs.declared.cheapest_steps.PricedStep.{PricedStep}

-- Accesses.

-- an access of the place, with what a run of it costs
pub record IsPricedAccess (q : Statement) (s : Statistics) (vector : List ℕ) (place : ℕ) (priced : PricedAccess)
    : Type 0 where
  pub valid : IsAccessOf q s.indexed place priced.access
  pub unit : priced.unit ≡ access_unit q s vector priced.access

-- and no access of the place costs less
pub record IsLeastAccess (q : Statement) (s : Statistics) (vector : List ℕ) (place : ℕ) (least : PricedAccess)
    : Type 0 where
  pub priced : IsPricedAccess q s vector place least
  pub below_all : (access : Access) → IsAccessOf q s.indexed place access → least.unit ≤ access_unit q s vector access

-- the cheapest access of each of the first so many places
pub record AreLeastAccesses (q : Statement) (s : Statistics) (vector : List ℕ) (count : ℕ) (list : List PricedAccess)
    : Type 0 where
  pub one_each : length list ≡ count
  pub each : (place : ℕ) (other : PricedAccess) → place < count
      → IsLeastAccess q s vector place (slice_index_or list place other)

-- Steps.

-- a step that takes the place into the set, with what it does for each row so far
pub record IsPricedStep (q : Statement) (s : Statistics) (vector : List ℕ) (from place : ℕ) (priced : PricedStep)
    : Type 0 where
  pub valid : IsStepInto q s.indexed from place priced.step
  pub unit : priced.unit ≡ unit_of_step q s vector priced.step

-- a step that takes the place into the set, and none does less for each row so far
pub record IsLeastStep (q : Statement) (s : Statistics) (vector : List ℕ) (from place : ℕ) (step : StepKind)
    : Type 0 where
  pub valid : IsStepInto q s.indexed from place step
  pub below_all : (other : StepKind) → IsStepInto q s.indexed from place other
      → unit_of_step q s vector step ≤ unit_of_step q s vector other
