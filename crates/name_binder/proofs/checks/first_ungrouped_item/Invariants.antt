use Rattle.std.proofs.Common.{◌≡◌, drop}
use Rattle.name_binder.specs.Refusals.{first_ungrouped_item}
use Rattle.name_binder.proofs.checks.first_ungrouped_item.Given as goal

-- the items that are left decide
abbrev pub invariant-loop-item : goal.invariant-loop-item
invariant-loop-item l = first_ungrouped_item l.groups l.places (drop l.item-index l.items)
    ≡ first_ungrouped_item l.groups l.places l.items
