use Rattle.plan_costs.specs.BestPlans.{table_of_cells}
use Rattle.certificate_check.specs.Bounds.{costs_of}
use Rattle.certificate_check.proofs.Answering.{told}
use Rattle.certificate_check.proofs.Feasible.{set_told}
use Rattle.certificate_check.proofs.tables.is_feasible_at.Goals as goal

pub returns : goal.returns
returns c = set_told c.args.q.now c.args.stats.now c.args.s.now (table_of_cells c.args.cells.now) c.args.set
    (costs_of c.cell_at-cell.result) c.in_ok-holds.holds c.cell_at-cell.ensures
    (told c.takes_sort.result c.takes_sort.ensures (cc)) (told c.takes_splits.result c.takes_splits.ensures (cc))
    c.in_ok-holds.ensures
