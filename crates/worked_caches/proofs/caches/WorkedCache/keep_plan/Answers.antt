use Rattle.std.proofs.Common.{subst, sym}
use Rattle.worked_caches.specs.OfStatement.{IsOfStatement}
use Rattle.worked_caches.proofs.Sound.{moved, with_plan}
use Rattle.worked_caches.proofs.caches.WorkedCache.keep_plan.Goals as goal

pub invariant_of-self-2 : goal.invariant_of-self-2
invariant_of-self-2 c =
    let q = c.args.self.now.worked.query in
    let s = c.args.self.now.worked.stats in
    let roomy = c.reserve_one.new.self in
    let executions = c.args.self.now.executions in
    record {
      of_statement = subst (λ cache. IsOfStatement q s cache.plans cache.anchors executions)
          (sym c.add_plan.ensures.value)
          (with_plan q s roomy.plans roomy.anchors executions
          (record { number = roomy.next_plan; costed = c.in_ok-costed.costed })
          (moved q s c.args.self.now.cache.plans roomy.plans c.args.self.now.cache.anchors roomy.anchors executions
          c.reserve_one.ensures.plans c.reserve_one.ensures.anchors c.args.self.now.of_statement)
          c.in_ok-costed.ensures);
    }
