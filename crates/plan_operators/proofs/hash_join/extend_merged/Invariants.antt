use Rattle.std.proofs.Common.{◌≡◌, ◌++◌, map, take}
use Rattle.std.specs.Prelude.{filter}
use Rattle.plan_trees.specs.PlaceSets.{has}
use Rattle.statement_meaning.specs.PartialCombinations.{merged}
use Rattle.plan_operators.specs.Edges.{all_meet}
use Rattle.plan_operators.proofs.hash_join.extend_merged.Given as goal

abbrev pub invariant-loop-one : goal.invariant-loop-one
invariant-loop-one l =
    l.into.items
    ≡ l.initial.into.items
    ++ filter (all_meet l.edges) (map (merged (has l.places) l.combo) (take l.one-index l.found))
