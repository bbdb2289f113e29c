use Rattle.std.proofs.Common.{◌≡◌, ◌++◌, take, map, set}
use Rattle.std.specs.Prelude.{filter}
use Rattle.plan_operators.specs.Edges.{all_meet}
use Rattle.plan_operators.proofs.joining.extend.Given as goal

abbrev pub invariant-loop-row : goal.invariant-loop-row
invariant-loop-row l =
    l.into.items ≡ l.initial.into.items ++ filter (all_meet l.edges) (map (set l.combo l.place) (take l.row-index l.rows))
