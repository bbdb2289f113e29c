use Rattle.std.proofs.Common.{◌≡◌, ◌++◌, drop, map}
use Rattle.name_binder.proofs.references.push_group_refs.Given as goal

-- the references that are left are added next
abbrev pub invariant-loop-r : goal.invariant-loop-r
invariant-loop-r l = map (λ r. r.now) l.refs.items ++ drop l.r-index l.groups ≡ map (λ r. r.now) l.initial.refs.items
    ++ l.groups
