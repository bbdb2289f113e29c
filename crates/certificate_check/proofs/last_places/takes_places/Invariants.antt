use Rattle.std.proofs.Common.{ℕ, ◌<◌}
use Rattle.cost_model.specs.LeastCost.{TakesPlace}
use Rattle.plan_costs.specs.BestPlans.{table_of_cells}
use Rattle.certificate_check.specs.Bounds.{costs_of}
use Rattle.certificate_check.proofs.last_places.takes_places.Given as goal

-- no plan that takes in a place so far costs less
abbrev pub invariant-loop-place : goal.invariant-loop-place
invariant-loop-place l = (place : ℕ) → place < l.place
    → TakesPlace l.q l.stats l.s (table_of_cells l.cells) l.set place (costs_of l.cell)
