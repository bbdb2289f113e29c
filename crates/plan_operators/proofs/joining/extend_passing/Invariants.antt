use Rattle.std.proofs.Common.{◌≡◌, ◌++◌, take, map, set}
use Rattle.std.specs.Prelude.{filter}
use Rattle.row_tests.specs.Ready.{all_hold}
use Rattle.plan_operators.specs.Edges.{all_meet}
use Rattle.plan_operators.proofs.joining.extend_passing.Given as goal

abbrev pub invariant-loop-row : goal.invariant-loop-row
invariant-loop-row l =
    l.into.items
    ≡ l.initial.into.items
    ++ filter (all_meet l.edges)
    (map (set l.combo l.place)
    (filter (all_hold l.probe.args.now l.probe.table.now l.probe.ready.now) (take l.row-index l.rows)))
