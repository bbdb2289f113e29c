use Rattle.std.proofs.Common.{◌≡◌, ◌++◌, length, map, drop}
use Rattle.plan_trees.specs.Statistics.{by_place, column_count}
use Rattle.plan_trees.proofs.statistics.kept_by_place.Given as goal

-- the places that are left take the numbers that are left
abbrev pub invariant-loop-place : goal.invariant-loop-place
invariant-loop-place l =
    (length l.rest ≡ column_count (drop l.place-index l.places))
    × (map (λ list. list.items) l.lists.items ++ by_place (drop l.place-index l.places) l.rest
    ≡ by_place l.places l.numbers)
