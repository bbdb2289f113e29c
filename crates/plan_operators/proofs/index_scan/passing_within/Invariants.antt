use Rattle.std.proofs.Common.{◌≡◌, take}
use Rattle.std.specs.Prelude.{filter}
use Rattle.index_ranges.specs.Ranges.{rows_between}
use Rattle.row_tests.specs.Ready.{all_hold}
use Rattle.plan_operators.proofs.index_scan.passing_within.Given as goal

abbrev pub invariant-loop-first : goal.invariant-loop-first
invariant-loop-first l =
    l.found.items ≡ filter (all_hold l.args l.table l.ready) (rows_between l.rows (take l.first-index l.ranges))
