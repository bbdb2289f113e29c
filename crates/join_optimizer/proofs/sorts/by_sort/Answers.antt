use Rattle.std.proofs.Common.{refl}
use Rattle.join_optimizer.proofs.CostSums.{any_fits, one_more_fits, sort_below}
use Rattle.join_optimizer.proofs.Sorting.{sort_offered}
use Rattle.join_optimizer.proofs.sorts.by_sort.Goals as goal

pub take_ordered-requires : goal.take_ordered-requires
take_ordered-requires c =
    one_more_fits _ _
    (sort_below c.args.q.now c.args.stats.now c.args.s.now c.args.set _ c.requires.query c.requires.sound
    c.requires.vector c.sort_cost_with-cost.ensures.value)
    (any_fits c.args.q.now c.args.stats.now c.args.s.now c.args.set c.args.best c.requires.query c.requires.sound
    c.requires.vector c.requires.best)

pub returns : goal.returns
returns c =
    sort_offered c.args.q.now c.args.stats.now c.args.s.now c.args.set _ c.args.best _ (cc)
    (cc) c.sort_cost_with-cost.ensures.value c.requires.best c.in_ok-sorted.ensures refl
