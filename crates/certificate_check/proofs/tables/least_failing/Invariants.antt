use Rattle.plan_costs.specs.BestPlans.{table_of_cells}
use Rattle.certificate_check.proofs.Feasible.{AreFeasible}
use Rattle.certificate_check.proofs.tables.least_failing.Given as goal

-- all inequalities of the sets so far hold
abbrev pub invariant-loop-set : goal.invariant-loop-set
invariant-loop-set l = AreFeasible l.q l.stats l.s (table_of_cells l.cells) l.set
