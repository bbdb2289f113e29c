use Rattle.std.proofs.Common.{◌≡◌, ◌++◌, take}
use Rattle.std.specs.Prelude.{filter}
use Rattle.row_tests.specs.Ready.{all_hold}
use Rattle.plan_operators.proofs.index_scan.push_passing.Given as goal

abbrev pub invariant-loop-row : goal.invariant-loop-row
invariant-loop-row l =
    l.into.items ≡ l.initial.into.items ++ filter (all_hold l.args l.table l.ready) (take l.row-index l.rows)
