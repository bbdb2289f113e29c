use Rattle.std.proofs.Common.{◌≡◌, ◌++◌, drop, map}
use Rattle.std.specs.List.{filter_map}
use Rattle.name_binder.specs.References.{item_ref}
use Rattle.name_binder.proofs.references.push_item_refs.Given as goal

-- the items that are left add the rest
abbrev pub invariant-loop-item : goal.invariant-loop-item
invariant-loop-item l =
    map (λ r. r.now) l.refs.items ++ filter_map item_ref (drop l.item-index l.items)
    ≡ map (λ r. r.now) l.initial.refs.items ++ filter_map item_ref l.items
