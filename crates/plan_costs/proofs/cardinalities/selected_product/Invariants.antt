use Rattle.std.proofs.Common.{◌≡◌, ◌+◌, ◌*◌, map, length, drop}
use Rattle.row_values.specs.Statements.{selectivity_count}
use Rattle.plan_trees.specs.PlaceSets.{has}
use Rattle.plan_trees.specs.Statistics.{selectivity_places}
use Rattle.cost_model.specs.Cardinalities.{marked_product}
use Rattle.plan_costs.proofs.cardinalities.selected_product.Given as goal

-- the predicates that are left have the numbers that are left, and multiply to the rest
abbrev pub invariant-loop-pred : goal.invariant-loop-pred
invariant-loop-pred l =
    (l.next + selectivity_count (drop l.pred-index l.preds) ≡ length l.s)
    × (l.product * marked_product (map (has l.set) (selectivity_places (drop l.pred-index l.preds))) (drop l.next l.s)
    ≡ marked_product (map (has l.set) (selectivity_places l.preds)) l.s)
