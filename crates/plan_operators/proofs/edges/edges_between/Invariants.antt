use Rattle.std.proofs.Common.{◌≡◌, ℕ, List, take}
use Rattle.std.specs.Prelude.{filter}
use Rattle.plan_trees.specs.PlaceSets.{has}
use Rattle.statement_meaning.specs.Combinations.{edges_hold}
use Rattle.statement_meaning.specs.PartialCombinations.{is_between}
use Rattle.plan_operators.specs.Edges.{all_meet}
use Rattle.plan_operators.specs.Sources.{world_read}
use Rattle.plan_operators.proofs.edges.edges_between.Given as goal

-- the edges so far that are between the two sets
abbrev pub invariant-loop-edge : goal.invariant-loop-edge
invariant-loop-edge l = (c : List ℕ)
    → all_meet l.ready.items c
    ≡ edges_hold (world_read l.source)
    (filter (is_between (has l.outer) (has l.inner)) (take l.edge-index l.source.q.now.edges)) c
