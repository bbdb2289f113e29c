use Rattle.std.proofs.Common.{◌≡◌, ◌*◌, drop}
use Rattle.plan_costs.proofs.Factors.{rows_divisor}
use Rattle.plan_costs.proofs.cardinalities.rows_product.Given as goal

-- the predicates that are left multiply to the rest
abbrev pub invariant-loop-pred : goal.invariant-loop-pred
invariant-loop-pred l =
    l.product * rows_divisor l.set l.stats.rows (drop l.pred-index l.preds) ≡ rows_divisor l.set l.stats.rows l.preds
