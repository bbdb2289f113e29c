use Rattle.std.proofs.Common.{◌≡◌, ◌+◌, ◌≤◌, drop}
use Rattle.name_binder.specs.Parameters.{parameterised_count}
use Rattle.name_binder.proofs.limits.parameterised_count.Given as goal

-- the conditions that are left add the rest
abbrev pub invariant-loop-cond : goal.invariant-loop-cond
invariant-loop-cond l = (l.count ≤ l.cond-index) × (l.count + parameterised_count (drop l.cond-index l.conds)
    ≡ parameterised_count l.conds)
