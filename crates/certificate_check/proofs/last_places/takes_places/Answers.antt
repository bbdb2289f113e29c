use Rattle.std.proofs.Common.{ℕ}
use Rattle.cost_model.specs.LeastCost.{TakesPlace}
use Rattle.plan_costs.specs.BestPlans.{table_of_cells}
use Rattle.certificate_check.specs.Bounds.{costs_of}
use Rattle.certificate_check.proofs.Answering.{below_more, told}
use Rattle.certificate_check.proofs.last_places.takes_places.Goals as goal

pub loop-place-preserved : goal.loop-place-preserved
loop-place-preserved c =
    below_more (λ (place : ℕ). TakesPlace c.args.q.now c.args.stats.now c.args.s.now
    (table_of_cells c.args.cells.now) c.args.set place (costs_of c.args.cell)) c.loop-place.place
    c.loop-place.invariant (told c.in_ok-holds.holds c.in_ok-holds.ensures (cc))
