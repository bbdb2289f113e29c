use Rattle.worked_caches.proofs.Sound.{after_eviction}
use Rattle.worked_caches.proofs.caches.WorkedCache.evict.Goals as goal

pub invariant_of-self : goal.invariant_of-self
invariant_of-self c = record {
  of_statement = after_eviction c.args.self.now.worked.query c.args.self.now.worked.stats c.args.self.now.cache
      c.evict.new.cache c.args.self.now.executions c.args.plan c.evict.result c.evict.ensures.plans
      c.evict.ensures.state c.evict.ensures.unchanged c.args.self.now.of_statement;
}
