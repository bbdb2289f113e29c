use Rattle.certificate_check.specs.Bounds.{costs_of}
use Rattle.certificate_check.proofs.LastPlaces.{steps_told}
use Rattle.certificate_check.proofs.last_places.takes_steps.Goals as goal

pub returns : goal.returns
returns c = steps_told c.args.q.now c.args.stats.now c.args.s.now c.args.from c.args.place
    c.step_cost_with-cost.result c.least_step-step.result (costs_of c.args.outer) (costs_of c.args.cell)
    c.takes_over.result c.least_step-step.ensures c.step_cost_with-cost.ensures.value c.takes_over.ensures
