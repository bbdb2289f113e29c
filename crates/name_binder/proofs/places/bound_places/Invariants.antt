use Rattle.std.proofs.Common.{◌≡◌, drop, take}
use Rattle.name_binder.specs.References.{places_of}
use Rattle.name_binder.specs.Refusals.{first_unknown_table}
use Rattle.name_binder.proofs.places.bound_places.Given as goal

-- the tables so far are known
abbrev pub invariant-loop-entry : goal.invariant-loop-entry
invariant-loop-entry g l =
    (l.places.items ≡ places_of (g.S.Schemas.tables l.schemas) (take l.entry-index l.entries))
    × (first_unknown_table (g.S.Schemas.tables l.schemas) (drop l.entry-index l.entries)
    ≡ first_unknown_table (g.S.Schemas.tables l.schemas) l.entries)
