use Rattle.std.proofs.Common.{◌≡◌, take, map}
use Rattle.name_binder.specs.Binding.{bound_key}
use Rattle.name_binder.proofs.parts.bound_keys.Given as goal

abbrev pub invariant-loop-key : goal.invariant-loop-key
invariant-loop-key l = l.bound.items ≡ map (bound_key l.places) (take l.key-index l.order)
