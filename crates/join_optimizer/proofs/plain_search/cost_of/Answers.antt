use Rattle.plan_costs.proofs.Ones.{counts_some}
use Rattle.join_optimizer.proofs.plain_search.cost_of.Goals as goal

pub eval-requires : goal.eval-requires
eval-requires c =
    c.in_ok-poly.ensures.vectors c.args.s.now c.requires.one_each
    (counts_some c.args.w.now.query c.args.w.now.stats c.args.s.now c.requires)
