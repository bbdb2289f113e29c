use Rattle.std.proofs.Common.{◌≡◌, ◌++◌, drop, map}
use Rattle.name_binder.proofs.references.push_key_refs.Given as goal

-- the keys that are left add the rest
abbrev pub invariant-loop-key : goal.invariant-loop-key
invariant-loop-key l =
    map (λ r. r.now) l.refs.items ++ map (λ key. key.at) (drop l.key-index l.order)
    ≡ map (λ r. r.now) l.initial.refs.items ++ map (λ key. key.at) l.order
