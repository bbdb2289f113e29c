use Rattle.join_optimizer.specs.Found.{table_of}
use Rattle.join_optimizer.proofs.Offers.{numbers_more}
use Rattle.join_optimizer.proofs.Parts.{split_stays}
use Rattle.join_optimizer.proofs.hash_joins.by_splits.Goals as goal

pub loop-right-preserved : goal.loop-right-preserved
loop-right-preserved c =
    numbers_more c.args.q.now c.args.stats.now c.args.s.now _ _ _ _ _ _ _
    (split_stays c.args.q.now c.args.stats.now c.args.s.now (table_of c.args.cells.now) c.args.set)
    c.loop-right.invariant c.in_ok-best.ensures
