use Rattle.std.proofs.Common.{subst, sym}
use Rattle.worked_caches.specs.OfStatement.{IsOfStatement}
use Rattle.worked_caches.proofs.Sound.{with_use}
use Rattle.worked_caches.proofs.caches.WorkedCache.use_again.Goals as goal

pub invariant_of-self : goal.invariant_of-self
invariant_of-self c = record {
  of_statement = subst (λ cache. IsOfStatement c.args.self.now.worked.query c.args.self.now.worked.stats cache.plans
      cache.anchors c.args.self.now.executions) (sym c.used.ensures.value)
      (with_use c.args.self.now.worked.query c.args.self.now.worked.stats c.args.self.now.cache.plans
      c.args.self.now.cache.anchors c.args.self.now.executions c.args.place c.args.self.now.of_statement);
}
