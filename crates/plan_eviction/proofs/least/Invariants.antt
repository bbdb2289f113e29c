use Rattle.std.proofs.Common.{◌≡◌, nat_lt, take}
use Rattle.std.specs.List.{best_of}
use Rattle.anchor_cache.specs.declared.kept_plans.PlanUses.{PlanUses}
use Rattle.plan_eviction.proofs.least.Given as goal

-- the least so far
abbrev pub invariant-loop-sum : goal.invariant-loop-sum
invariant-loop-sum l =
    l.least ≡ best_of (λ (y least : PlanUses). nat_lt y.uses least.uses) l.initial.least (take l.sum-index l.others)
