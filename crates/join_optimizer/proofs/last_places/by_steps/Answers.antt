use Rattle.join_optimizer.specs.Found.{cost_in}
use Rattle.join_optimizer.proofs.Parts.{least_taken}
use Rattle.join_optimizer.proofs.last_places.by_steps.Goals as goal

pub offer_step-requires-clause-valid : goal.offer_step-requires-clause-valid
offer_step-requires-clause-valid c = c.least_step-step.ensures.valid

pub returns : goal.returns
returns c =
    least_taken c.args.q.now c.args.stats.now c.args.s.now _ c.args.from c.args.place _ (cost_in c.args.outer.now) _ _
    c.least_step-step.ensures c.in_ok-best.ensures
