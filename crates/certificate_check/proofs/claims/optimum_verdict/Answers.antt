use Rattle.std.proofs.Common.{subst}
use Rattle.cost_model.specs.LeastCost.{IsFeasible}
use Rattle.plan_costs.specs.BestPlans.{table_of_cells}
use Rattle.certificate_check.specs.Bounds.{HasEachCell}
use Rattle.certificate_check.proofs.Answering.{told}
use Rattle.certificate_check.proofs.claims.optimum_verdict.Goals as goal

pub number_verdict-requires-clause-table : goal.number_verdict-requires-clause-table
number_verdict-requires-clause-table c = record {
  one_each = subst (HasEachCell c.args.q.now) c.cells-cells.ensures
      (told c.has_each_cell.result c.has_each_cell.ensures (cc));
  feasible = subst (λ cells. IsFeasible c.args.q.now c.args.stats.now c.args.s.now (table_of_cells cells))
      c.cells-cells.ensures (rw c.in-Ok-None.field-0-is at c.in-Ok-None.ensures);
}
