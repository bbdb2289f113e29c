use Rattle.std.proofs.Common.{◌≡◌, map, take}
use Rattle.csv_tables.specs.StatementTables.{tables_in}
use Rattle.selectivity_counts.proofs.tests.places_of.Given as goal

-- the columns of the tables so far
abbrev pub invariant-loop-place : goal.invariant-loop-place
invariant-loop-place l =
    map (λ table. table.schema) (tables_in (take l.place l.tables)) ≡ map (λ place. place.schema) l.places.items
