use Rattle.std.proofs.Common.{◌≡◌, take, map, set}
use Rattle.std.specs.Prelude.{filter, flat_map}
use Rattle.plan_operators.specs.Edges.{all_meet}
use Rattle.plan_operators.proofs.nested_loop_join.loop_over.Given as goal

abbrev pub invariant-loop-combo : goal.invariant-loop-combo
invariant-loop-combo l =
    l.combos.items ≡ flat_map (λ c. filter (all_meet l.edges) (map (set c l.place) l.rows)) (take l.combo-index l.outer)
