use Rattle.std.proofs.Common.{map}
use Rattle.anchor_cache.specs.Anchors.{held}
use Rattle.anchor_cache.proofs.Steps.{step_with_plan}
use Rattle.anchor_cache.proofs.cache.Cache.add_plan.Goals as goal

pub invariant_of-self : goal.invariant_of-self
invariant_of-self c =
    rw (c.push_reserved.ensures.items, c.push_reserved-2.ensures.items)
    (step_with_plan c.self.inside.plans.items
    (map held c.self.inside.anchors.items) c.self.inside.sums.items c.self.inside.ordered.items
    (record { number = c.self.inside.next_plan; costed = c.args.costed }) c.self.invariant)
