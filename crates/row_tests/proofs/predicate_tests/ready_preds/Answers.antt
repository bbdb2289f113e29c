use Rattle.row_tests.proofs.ReadyTests.{taken, skipped}
use Rattle.row_tests.proofs.predicate_tests.ready_preds.Goals as goal
use Rattle.row_tests.proofs.predicate_tests.ready_preds.Goals.{then-pred-place+in_ok-push, else-pred-place}

pub loop-pred-preserved : goal.loop-pred-preserved
loop-pred-preserved c = λ row. elim c.if-pred-place.branch [
  | then-pred-place+in_ok-push w ↦ rw (w.ready-is, w.in_ok-push.ensures.items)
      (taken _ c.args.table.now c.args.preds.now c.loop-pred.pred-index c.args.place c.pred-item.result
      c.loop-pred.ready.items w.ready_pred.result row _ _
      c.loop-pred-test.true c.pred-item.is w.if-pred-place.true (w.ready_pred.ensures row) (c.loop-pred.invariant row))
  | else-pred-place w ↦ rw w.ready-is
      (skipped _ c.args.preds.now c.loop-pred.pred-index c.args.place c.pred-item.result _ _ _ c.loop-pred-test.true
      c.pred-item.is w.if-pred-place.false
      (c.loop-pred.invariant row))
]
