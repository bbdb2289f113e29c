use Rattle.std.proofs.Common.{◌≡◌, map, take}
use Rattle.std.specs.Prelude.{filter, flat_map}
use Rattle.std.specs.Ordering.{is_eq}
use Rattle.plan_trees.specs.PlaceSets.{has}
use Rattle.row_values.specs.Orders.{compares}
use Rattle.statement_meaning.specs.PartialCombinations.{merged}
use Rattle.plan_operators.specs.Columns.{cell_seen}
use Rattle.plan_operators.specs.Edges.{all_meet}
use Rattle.plan_operators.proofs.hash_join.look_up.Given as goal

abbrev pub invariant-loop-combo : goal.invariant-loop-combo
invariant-loop-combo l =
    l.combos.items
    ≡ flat_map (λ c. filter (all_meet l.edges)
    (map (merged (has l.places) c)
    (filter (λ d. compares is_eq (cell_seen l.column c) (cell_seen l.side.column d)) l.side.combos.items)))
    (take l.combo-index l.outer)
