use Rattle.std.proofs.Common.{rules}
use Rattle.worked_caches.proofs.Sound.{costs_at}
use Rattle.worked_caches.proofs.caches.WorkedCache.covering.Goals as goal

pub covering-requires-clause-costs : goal.covering-requires-clause-costs
covering-requires-clause-costs c =
    costs_at c.args.self.now.worked.query c.args.self.now.worked.stats c.args.self.now.cache.plans
    c.args.self.now.cache.anchors c.args.self.now.executions c.args.q.now c.args.self.now.of_statement
    (c.is_instance.ensures.vector (search rules))
