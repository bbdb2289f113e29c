use Rattle.std.proofs.Common.{[], sym, slice_index_or, ◌∙◌}
use Rattle.row_tests.specs.Ready.{all_hold}
use Rattle.statement_meaning.specs.Conditions.{row_passes}
use Rattle.statement_statistics.specs.Statistics.{fixed_preds}
use Rattle.selectivity_counts.proofs.FixedTests.{fixed_skipped, fixed_taken}
use Rattle.selectivity_counts.proofs.fixed.fixed_tests.Goals as goal
use Rattle.selectivity_counts.proofs.fixed.fixed_tests.Goals.{then-is_fixed_on+in_ok-push, else-is_fixed_on}

pub loop-pred-preserved : goal.loop-pred-preserved
loop-pred-preserved c =
    elim c.if-is_fixed_on.branch [
      | then-is_fixed_on+in_ok-push w ↦
          λ row. rw (w.tests-is, w.in_ok-push.ensures.items)
          (fixed_taken c.args.table.now c.args.preds.now c.loop-pred.pred-index c.args.place c.pred-item.result
          c.loop-pred.tests.items w.ready_pred.result row (slice_index_or c.args.table.now.rows row [])
          (row_passes [] (fixed_preds c.args.preds.now) c.args.place (slice_index_or c.args.table.now.rows row []))
          c.loop-pred-test.true c.pred-item.is (sym c.is_fixed_on.ensures ∙ w.if-is_fixed_on.true)
          (w.ready_pred.ensures row) (c.loop-pred.invariant row))
      | else-is_fixed_on w ↦
          λ row. rw w.tests-is
          (fixed_skipped c.args.preds.now c.loop-pred.pred-index c.args.place c.pred-item.result
          (slice_index_or c.args.table.now.rows row [])
          (all_hold [] c.args.table.now c.loop-pred.tests.items row)
          (row_passes [] (fixed_preds c.args.preds.now) c.args.place (slice_index_or c.args.table.now.rows row []))
          c.loop-pred-test.true c.pred-item.is (sym c.is_fixed_on.ensures ∙ w.if-is_fixed_on.false)
          (c.loop-pred.invariant row))
    ]
