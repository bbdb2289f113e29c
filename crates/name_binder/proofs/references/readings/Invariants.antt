use Rattle.std.proofs.Common.{◌≡◌, ◌+◌, ◌≤◌, drop}
use Rattle.name_binder.specs.References.{readings}
use Rattle.name_binder.proofs.references.readings.Given as goal

-- the places that are left add the rest
abbrev pub invariant-loop-place : goal.invariant-loop-place
invariant-loop-place l = (l.count ≤ l.place-index) × (l.count + readings l.r (drop l.place-index l.places)
    ≡ readings l.r l.places)
