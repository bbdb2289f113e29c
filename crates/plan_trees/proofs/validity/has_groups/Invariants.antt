use Rattle.std.proofs.Common.{◌≡◌, drop, map}
use Rattle.plan_trees.specs.PlanSpace.{has_all_keys, ascending}
use Rattle.plan_trees.proofs.validity.has_groups.Given as goal

-- the columns that are left decide
abbrev pub invariant-loop-group : goal.invariant-loop-group
invariant-loop-group l = has_all_keys l.set (map ascending (drop l.group-index l.groups))
    ≡ has_all_keys l.set (map ascending l.groups)
