use Rattle.std.proofs.Common.{ℕ, ◌<◌}
use Rattle.cost_model.specs.LeastCost.{TakesSplit}
use Rattle.plan_costs.specs.BestPlans.{table_of_cells}
use Rattle.certificate_check.specs.Bounds.{costs_of}
use Rattle.certificate_check.proofs.hash_joins.takes_splits.Given as goal

-- no hash join with an inner side so far costs less
abbrev pub invariant-loop-right : goal.invariant-loop-right
invariant-loop-right l = (right : ℕ) → right < l.right → 0 < right
    → TakesSplit l.q l.stats l.s (table_of_cells l.cells) l.set right (costs_of l.cell)
