-- What the search has found: plans with their costs, and the cheaper of two.
use Rattle.std.specs.Prelude.{ℕ, ◌≡◌, ◌+◌, nat_lt, Bool, true, false, List, slice_index_or, Option, Some, None, IfSome}
use Rattle.std.specs.Prelude.{if◌then◌else◌}
use Rattle.row_values.specs.Statements.{Statement}
use Rattle.plan_trees.specs.declared.plans.Access.{Access}
use Rattle.plan_trees.specs.declared.plans.StepKind.{StepKind}
use Rattle.plan_trees.specs.PlanSpace.{is_sorted_access, is_sorted_plan}
use Rattle.plan_trees.specs.Statistics.{Statistics}
use Rattle.plan_trees.specs.Trees.{Tree, Base, Join, HashJoin, Sort, tree}
use Rattle.cost_model.specs.Costs.{plan_cost}
use Rattle.cost_model.specs.LeastCost.{Table, IsPlanOf}
use Rattle.join_optimizer.specs.declared.found.Found.{Found}
use Rattle.join_optimizer.specs.declared.found.Cheapest.{Cheapest}

-- a plan, without its pointers, and its cost
pub record Priced : Type 0 where
  pub plan : Tree
  pub cost : ℕ

abbrev pub seen : Option Found → Option Priced
seen None = None
seen (Some found) = Some (record { plan = tree found.plan.value; cost = found.cost })

abbrev pub cost_of : Option Priced → Option ℕ
cost_of None = None
cost_of (Some priced) = Some priced.cost

-- the plan of any order at `false`, the one in the wanted order at `true`
abbrev pub found_in : Bool → Cheapest → Option Found
found_in true cell = cell.sorted
found_in false cell = cell.any

abbrev pub plan_in : Cheapest → Bool → Option Priced
plan_in cell sorted = seen (found_in sorted cell)

abbrev pub cost_in : Cheapest → Bool → Option ℕ
cost_in cell sorted = cost_of (plan_in cell sorted)

abbrev pub nothing : Cheapest
nothing = record { any = None; sorted = None }

-- a list of cells as a table: the cell of a set stands at the position of its number
abbrev pub table_of : List Cheapest → Table
table_of cells sorted set = cost_in (slice_index_or cells set nothing) sorted

-- The cheaper of two.

abbrev pub is_less : ℕ → Option ℕ → Bool
is_less cost None = true
is_less cost (Some other) = nat_lt cost other

-- the first, unless the second costs less
abbrev pub cheaper : Option Priced → Option Priced → Option Priced
cheaper best None = best
cheaper best (Some other) = if is_less other.cost (cost_of best) then Some other else best

-- What is offered.

abbrev pub priced : Tree → ℕ → Option Priced
priced plan cost = Some (record { plan = plan; cost = cost })

-- an access, in the wanted order if it gives it
abbrev pub accessed : Statement → Access → ℕ → Bool → Option Priced
accessed q access cost true = if is_sorted_access q access then priced (Base access) cost else None
accessed q access cost false = priced (Base access) cost

abbrev pub stepped : StepKind → ℕ → Option Priced → Option Priced
stepped step cost None = None
stepped step cost (Some outer) = priced (Join outer.plan step) (outer.cost + cost)

abbrev pub joined : ℕ → ℕ → Option Priced → Option Priced → Option Priced
joined edge cost None inner = None
joined edge cost (Some outer) None = None
joined edge cost (Some outer) (Some inner) = priced (HashJoin outer.plan inner.plan edge)
    (outer.cost + inner.cost + cost)

-- a valid plan of exactly these places, in the wanted order at `true`, and what it costs
pub record IsFound (q : Statement) (s : Statistics) (vector : List ℕ) (sorted : Bool) (set : ℕ)
    (found : Priced) : Type 0 where
  pub fits : IsPlanOf q s sorted set found.plan
  pub costs : plan_cost q s vector found.plan ≡ found.cost

abbrev pub AreFound : Statement → Statistics → List ℕ → ℕ → (Bool → Option Priced) → Type 0
AreFound q s vector set plans = (sorted : Bool) → IfSome (plans sorted) (IsFound q s vector sorted set)

-- the plan itself where it is in the wanted order, else the plan with a sort over it
abbrev pub ordered : Statement → ℕ → Option Priced → Option Priced
ordered q cost None = None
ordered q cost (Some any) = if is_sorted_plan q any.plan then Some any else priced (Sort any.plan) (any.cost + cost)
