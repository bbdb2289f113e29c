use Rattle.std.proofs.Common.{◌*◌}
use Rattle.plan_trees.specs.declared.plans.Access.{Access}
use Rattle.plan_trees.specs.declared.scale.TheConstants.{COST_SCALE}
use Rattle.cost_model.specs.Costs.{access_unit}
use Rattle.certificate_check.specs.Bounds.{TakesAccess, costs_of}
use Rattle.certificate_check.proofs.Answering.{EachOf}
use Rattle.certificate_check.proofs.last_places.takes_accesses.Given as goal

-- no access so far costs less
abbrev pub invariant-loop-access : goal.invariant-loop-access
invariant-loop-access l = EachOf (λ (access : Access). TakesAccess l.q access
    (COST_SCALE * access_unit l.q l.stats l.s access) (costs_of l.cell)) l.access-items l.access-index
