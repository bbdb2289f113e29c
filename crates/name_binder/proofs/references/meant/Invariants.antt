use Rattle.std.proofs.Common.{◌≡◌, ◌+◌, drop}
use Rattle.name_binder.specs.References.{place_number, column_in}
use Rattle.name_binder.proofs.references.meant.Given as goal

-- the places that are left decide
abbrev pub invariant-loop-i : goal.invariant-loop-i
invariant-loop-i l =
    (l.i + place_number l.r (drop l.i l.places) ≡ place_number l.r l.places)
    × (column_in l.r (drop l.i l.places) ≡ column_in l.r l.places)
