use Rattle.std.proofs.Common.{◌≡◌, ◌++◌, ◌+◌, ◌*◌, ◌≤◌, false, drop}
use Rattle.name_binder.specs.Parameters.{parameterised_count}
use Rattle.name_binder.specs.Refusals.{has_long}
use Rattle.name_binder.specs.Binding.{preds_from}
use Rattle.name_binder.proofs.parts.bound_preds.Given as goal

-- the conditions that are left add the rest, and have at most sixteen parameters for each that is parameterised
abbrev pub invariant-loop-cond : goal.invariant-loop-cond
invariant-loop-cond l =
    (l.next + 16 * parameterised_count (drop l.cond-index l.conds) ≤ 128)
    × (has_long (drop l.cond-index l.conds) ≡ false)
    × (l.preds.items ++ preds_from l.places l.next (drop l.cond-index l.conds) ≡ preds_from l.places 0 l.conds)
