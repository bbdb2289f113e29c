use Rattle.std.proofs.Common.{◌≡◌, ◌++◌, drop, map}
use Rattle.std.specs.List.{flat_map}
use Rattle.name_binder.specs.References.{cond_refs}
use Rattle.name_binder.proofs.references.push_cond_refs.Given as goal

-- the conditions that are left add the rest
abbrev pub invariant-loop-cond : goal.invariant-loop-cond
invariant-loop-cond l =
    map (λ r. r.now) l.refs.items ++ flat_map cond_refs (drop l.cond-index l.conds)
    ≡ map (λ r. r.now) l.initial.refs.items ++ flat_map cond_refs l.conds
