use Rattle.std.proofs.Common.{◌≡◌, ◌≤◌, ◌+◌, drop}
use Rattle.row_values.specs.Statements.{selectivity_count}
use Rattle.row_values.specs.declared.statement.TheConstants.{SELECTIVITY_LIMIT}
use Rattle.plan_trees.specs.Statistics.{selectivity_places}
use Rattle.growth_checker.specs.Expression.{formula}
use Rattle.plan_costs.specs.Formulas.{selected}
use Rattle.plan_costs.proofs.formulas.with_selectivities.Given as goal

-- the predicates that are left make the rest of the formula
abbrev pub invariant-loop-pred : goal.invariant-loop-pred
invariant-loop-pred l =
    (l.next + selectivity_count (drop l.pred-index l.preds) ≤ SELECTIVITY_LIMIT)
    × (selected l.set l.next (formula l.made) (selectivity_places (drop l.pred-index l.preds))
    ≡ selected l.set 0 (formula l.fn.e) (selectivity_places l.preds))
