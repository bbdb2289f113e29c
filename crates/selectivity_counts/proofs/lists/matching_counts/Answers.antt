use Rattle.selectivity_counts.proofs.Placed.{placed}
use Rattle.selectivity_counts.proofs.lists.matching_counts.Goals as goal

pub count_on_place-requires-clause-placed : goal.count_on_place-requires-clause-placed
count_on_place-requires-clause-placed c =
    placed c.args.q.now c.preds-pred-items.ensures.sound c.preds-pred-items.result.now c.preds-pred-items.ensures.value
    c.loop-pred.pred-index c.pred-item.result c.pred-item.is c.loop-pred-test.true
