use Rattle.std.proofs.Common.{◌≡◌, drop}
use Rattle.plan_trees.specs.PlanSpace.{has_all_keys}
use Rattle.plan_trees.proofs.validity.has_keys.Given as goal

-- the keys that are left decide
abbrev pub invariant-loop-key : goal.invariant-loop-key
invariant-loop-key l = has_all_keys l.set (drop l.key-index l.order) ≡ has_all_keys l.set l.order
