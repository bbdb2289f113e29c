use Rattle.join_optimizer.proofs.CostSums.{any_fits, one_more_fits, sorted_fits, step_below}
use Rattle.join_optimizer.proofs.Parts.{step_offered}
use Rattle.join_optimizer.proofs.last_places.offer_step.Goals as goal

pub take_step-requires : goal.take_step-requires
take_step-requires c =
    one_more_fits _ _
    (step_below c.args.q.now c.args.stats.now c.args.s.now c.args.from c.args.step _ c.requires.query c.requires.sound
    c.requires.vector c.requires.valid.0 c.step_cost_with-cost.ensures.value)
    (any_fits c.args.q.now c.args.stats.now c.args.s.now c.args.from c.args.outer.now c.requires.query c.requires.sound
    c.requires.vector c.requires.outer)

pub take_step-requires-2 : goal.take_step-requires-2
take_step-requires-2 c =
    one_more_fits _ _
    (step_below c.args.q.now c.args.stats.now c.args.s.now c.args.from c.args.step _ c.requires.query c.requires.sound
    c.requires.vector c.requires.valid.0 c.step_cost_with-cost.ensures.value)
    (sorted_fits c.args.q.now c.args.stats.now c.args.s.now c.args.from c.args.outer.now c.requires.query
    c.requires.sound c.requires.vector c.requires.outer)

pub returns : goal.returns
returns c =
    step_offered c.args.q.now c.args.stats.now c.args.s.now c.args.from c.args.place c.args.step _ c.args.outer.now
    c.args.best _ c.requires.valid c.step_cost_with-cost.ensures.value
    c.requires.outer c.requires.best c.in_ok-sorted.ensures c.in_ok-any.ensures
