use Rattle.std.proofs.Common.{◌<◌, ◌*◌, ◌^◌, ap, arith}
use Rattle.plan_trees.specs.declared.scale.TheConstants.{COST_SCALE}
use Rattle.join_optimizer.proofs.CostSums.{access_below}
use Rattle.join_optimizer.proofs.Parts.{access_offered}
use Rattle.join_optimizer.proofs.last_places.offer_access.Goals as goal

pub overflow_mul-cost : goal.overflow_mul-cost
overflow_mul-cost c =
    let less : COST_SCALE * c.access_unit-cost.result < 2 ^ 124 =
    access_below c.args.q.now c.args.stats.now c.args.s.now c.args.access _ c.requires.query c.requires.sound
    c.requires.vector c.requires.valid.0 c.access_unit-cost.ensures.value in
    omega arith

pub returns : goal.returns
returns c =
    access_offered c.args.q.now c.args.stats.now c.args.s.now c.args.place c.args.access _ c.args.best _
    c.requires.valid (ap (λ n. COST_SCALE * n) c.access_unit-cost.ensures.value)
    c.requires.best c.in_ok-sorted.ensures c.in_ok-any.ensures
