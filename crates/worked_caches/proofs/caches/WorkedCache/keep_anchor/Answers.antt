use Rattle.std.proofs.Common.{◌≤◌, ◌+◌, All, refl, rules, subst, sym}
use Rattle.plan_trees.specs.Statistics.{IsSoundVector}
use Rattle.cache_model.proofs.Counts.{counts_some}
use Rattle.worked_caches.specs.OfStatement.{IsOfStatement}
use Rattle.worked_caches.proofs.Sound.{moved, with_anchor}
use Rattle.worked_caches.proofs.caches.WorkedCache.keep_anchor.Goals as goal

pub add_anchor-requires-clause-numbers : goal.add_anchor-requires-clause-numbers
add_anchor-requires-clause-numbers c =
    subst (All (λ n. 1 ≤ n)) (sym c.in-Some.ensures.value)
    (counts_some c.args.self.now.worked.query c.args.self.now.worked.stats c.args.at.now
    (c.is_instance.ensures.vector (search rules)))

pub invariant_of-self-2 : goal.invariant_of-self-2
invariant_of-self-2 c =
    let q = c.args.self.now.worked.query in
    let s = c.args.self.now.worked.stats in
    let roomy = c.reserve_one.new.self in
    let executions = c.args.self.now.executions in
    record {
      of_statement = subst (λ cache. IsOfStatement q s cache.plans cache.anchors (executions + 1))
          (sym c.add_anchor.ensures.value)
          (with_anchor q s roomy.plans roomy.anchors executions _
          (moved q s c.args.self.now.cache.plans roomy.plans c.args.self.now.cache.anchors roomy.anchors executions
          c.reserve_one.ensures.plans c.reserve_one.ensures.anchors c.args.self.now.of_statement)
          (subst (IsSoundVector q s) (sym c.in-Some.ensures.value) (c.is_instance.ensures.vector (search rules)))
          refl);
    }
