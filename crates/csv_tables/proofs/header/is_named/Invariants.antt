use Rattle.std.proofs.Common.{◌≡◌, drop, map}
use Rattle.std.specs.List.{list_any}
use Rattle.std.specs.Str.{bytes_eq}
use Rattle.csv_tables.proofs.header.is_named.Given as goal

-- the headings that are left decide
abbrev pub invariant-loop-heading : goal.invariant-loop-heading
invariant-loop-heading l =
    list_any (bytes_eq l.name) (map (λ heading. heading.name) (drop l.heading-index l.headings))
    ≡ list_any (bytes_eq l.name) (map (λ heading. heading.name) l.headings)
