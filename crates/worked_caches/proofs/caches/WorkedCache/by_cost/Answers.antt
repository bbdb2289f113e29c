use Rattle.std.proofs.Common.{rules}
use Rattle.worked_caches.proofs.Sound.{costs_at, instance_for}
use Rattle.worked_caches.proofs.caches.WorkedCache.by_cost.Goals as goal

pub by_cost-requires-clause-instance : goal.by_cost-requires-clause-instance
by_cost-requires-clause-instance c =
    instance_for c.args.self.now.worked.query c.args.self.now.worked.stats c.args.self.now.cache.plans
    c.args.self.now.cache.anchors c.args.self.now.executions c.args.q.now c.is_instance.ensures.query
    c.is_instance.ensures.stats c.args.self.now.of_statement (c.is_instance.ensures.vector (search rules))

pub by_cost-requires-clause-costs : goal.by_cost-requires-clause-costs
by_cost-requires-clause-costs c =
    costs_at c.args.self.now.worked.query c.args.self.now.worked.stats c.args.self.now.cache.plans
    c.args.self.now.cache.anchors c.args.self.now.executions c.args.q.now c.args.self.now.of_statement
    (c.is_instance.ensures.vector (search rules))
