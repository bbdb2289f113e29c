-- What the best plan of an instance is, with pointers and without, and the table of a list of cells.
use Rattle.std.specs.Prelude.{ℕ, zero, suc, ◌≡◌, ◌+◌, ◌^◌, Bool, true, false, List, length, Option, Some, None}
use Rattle.std.specs.Prelude.{slice_get, option_and_then}
use Rattle.row_values.specs.Statements.{Statement}
use Rattle.plan_trees.specs.PlanSpace.{IsValidTop}
use Rattle.plan_trees.specs.Statistics.{Statistics}
use Rattle.plan_trees.specs.Trees.{TopTree, top_tree}
use Rattle.cost_model.specs.Costs.{top_cost}
use Rattle.cost_model.specs.LeastCost.{Table, IsLeastCost, IsTight}
use Rattle.plan_costs.specs.LowerBounds.{LowerBounds}
use Rattle.plan_costs.specs.declared.potentials.Cell.{Cell}
use Rattle.plan_costs.specs.declared.planner.Best.{Best}

-- the number of all plans at `false`, of those in the wanted order at `true`
abbrev pub in_cell : Bool → Cell → Option ℕ
in_cell true cell = cell.sorted
in_cell false cell = Some cell.any

-- the table of a list of cells: set k has the cell at position k - 1, and a set without a cell has no number
abbrev pub table_of_cells : List Cell → Table
table_of_cells cells sorted zero = None
table_of_cells cells sorted (suc position) = option_and_then (in_cell sorted) (slice_get cells position)

-- A valid plan with its cost, which is the least; and the tight table, a cell for each set of places that isn't
-- empty, with that least cost.
pub record IsBest (q : Statement) (s : Statistics) (vector : List ℕ) (best : Best) : Type 0 where
  pub valid : IsValidTop q s.indexed (top_tree best.plan.value)
  pub costs : top_cost q s vector (top_tree best.plan.value) ≡ best.cost
  pub least : IsLeastCost q s vector best.cost
  pub one_each : length best.potentials.cells + 1 ≡ 2 ^ length q.places
  pub tight : IsTight q s vector (table_of_cells best.potentials.cells) best.potentials.least
  pub same : best.potentials.least ≡ best.cost

-- The same of a plan without pointers, a cost and lower bounds.
pub record IsOptimum (q : Statement) (s : Statistics) (vector : List ℕ) (top : TopTree) (cost : ℕ)
    (bounds : LowerBounds) : Type 0 where
  pub valid : IsValidTop q s.indexed top
  pub costs : top_cost q s vector top ≡ cost
  pub least : IsLeastCost q s vector cost
  pub one_each : length bounds.cells + 1 ≡ 2 ^ length q.places
  pub tight : IsTight q s vector (table_of_cells bounds.cells) bounds.least
  pub same : bounds.least ≡ cost
