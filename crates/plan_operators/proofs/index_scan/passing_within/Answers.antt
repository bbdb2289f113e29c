use Rattle.std.proofs.Common.{sym}
use Rattle.row_tests.specs.Ready.{all_hold}
use Rattle.plan_operators.proofs.PlaceRows.{more_ranges}
use Rattle.plan_operators.proofs.index_scan.passing_within.Goals as goal

pub loop-first-preserved : goal.loop-first-preserved
loop-first-preserved c =
    rw (c.in_ok-push_passing.ensures, c.loop-first.invariant)
    (sym
    (more_ranges (all_hold c.args.args.now c.args.table.now c.args.ready.now) c.args.rows.now c.args.ranges.now
    c.loop-first.first-index _ c.loop-first-test.true))
