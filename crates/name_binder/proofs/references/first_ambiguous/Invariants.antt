use Rattle.std.proofs.Common.{◌≡◌, drop, map}
use Rattle.std.specs.List.{find}
use Rattle.name_binder.specs.References.{is_ambiguous}
use Rattle.name_binder.proofs.references.first_ambiguous.Given as goal

-- the references that are left decide
abbrev pub invariant-loop-r : goal.invariant-loop-r
invariant-loop-r l = find (is_ambiguous l.places) (map (λ r. r.now) (drop l.r-index l.refs))
    ≡ find (is_ambiguous l.places) (map (λ r. r.now) l.refs)
