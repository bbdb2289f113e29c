use Rattle.std.proofs.Common.{◌≡◌, take}
use Rattle.name_binder.specs.Refusals.{bound_groups}
use Rattle.name_binder.proofs.parts.bound_groups.Given as goal

abbrev pub invariant-loop-r : goal.invariant-loop-r
invariant-loop-r l = l.bound.items ≡ bound_groups l.places (take l.r-index l.groups)
