use Rattle.std.proofs.Common.{◌≡◌, drop}
use Rattle.name_binder.specs.Refusals.{first_sum_of_text}
use Rattle.name_binder.proofs.checks.first_sum_of_text.Given as goal

-- the items that are left decide
abbrev pub invariant-loop-item : goal.invariant-loop-item
invariant-loop-item l = first_sum_of_text l.places (drop l.item-index l.items) ≡ first_sum_of_text l.places l.items
