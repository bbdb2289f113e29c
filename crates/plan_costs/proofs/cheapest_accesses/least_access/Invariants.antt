use Rattle.cost_model.specs.Costs.{access_unit}
use Rattle.plan_costs.specs.Least.{IsPricedAccess}
use Rattle.plan_costs.proofs.Listed.{AreAbove}
use Rattle.plan_costs.proofs.cheapest_accesses.least_access.Given as goal

-- no access so far costs less
abbrev pub invariant-loop-access : goal.invariant-loop-access
invariant-loop-access l =
    IsPricedAccess l.q l.stats l.s l.place l.best
    × AreAbove (access_unit l.q l.stats l.s) l.access-items l.access-index l.best.unit
