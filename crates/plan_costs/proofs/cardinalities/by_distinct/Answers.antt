use Rattle.std.proofs.Common.{◌∙◌}
use Rattle.plan_costs.proofs.Factors.{distinct_at}
use Rattle.plan_costs.proofs.cardinalities.by_distinct.Goals as goal

pub loop-i-preserved : goal.loop-i-preserved
loop-i-preserved c =
    rw (c.divided-left.ensures)
    (distinct_at c.args.set c.loop-i.i c.loop-i.left c.distinct_factor-factor.result _ c.args.edges.now
    c.args.stats.now.distinct c.loop-i-test.true c.requires.each c.requires.some c.distinct_factor-factor.ensures
    ∙ c.loop-i.invariant)
