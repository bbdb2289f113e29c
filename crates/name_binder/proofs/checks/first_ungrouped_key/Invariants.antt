use Rattle.std.proofs.Common.{◌≡◌, drop}
use Rattle.name_binder.specs.Refusals.{first_ungrouped_key}
use Rattle.name_binder.proofs.checks.first_ungrouped_key.Given as goal

-- the keys that are left decide
abbrev pub invariant-loop-key : goal.invariant-loop-key
invariant-loop-key l = first_ungrouped_key l.groups l.places (drop l.key-index l.order)
    ≡ first_ungrouped_key l.groups l.places l.order
