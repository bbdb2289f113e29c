use Rattle.std.proofs.Common.{rules}
use Rattle.worked_caches.proofs.Sound.{instance_for}
use Rattle.worked_caches.proofs.caches.WorkedCache.by_selectivity.Goals as goal

pub by_selectivity-requires : goal.by_selectivity-requires
by_selectivity-requires c =
    instance_for c.args.self.now.worked.query c.args.self.now.worked.stats c.args.self.now.cache.plans
    c.args.self.now.cache.anchors c.args.self.now.executions c.args.q.now c.is_instance.ensures.query
    c.is_instance.ensures.stats c.args.self.now.of_statement (c.is_instance.ensures.vector (search rules))
