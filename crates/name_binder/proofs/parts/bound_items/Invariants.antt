use Rattle.std.proofs.Common.{◌≡◌, take, map}
use Rattle.name_binder.specs.Refusals.{bound_item}
use Rattle.name_binder.proofs.parts.bound_items.Given as goal

abbrev pub invariant-loop-item : goal.invariant-loop-item
invariant-loop-item l = l.bound.items ≡ map (bound_item l.places) (take l.item-index l.items)
