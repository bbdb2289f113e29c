use Rattle.join_optimizer.specs.Found.{table_of}
use Rattle.join_optimizer.proofs.Offers.{numbers_more}
use Rattle.join_optimizer.proofs.Parts.{place_stays}
use Rattle.join_optimizer.proofs.last_places.by_places.Goals as goal

pub loop-place-preserved : goal.loop-place-preserved
loop-place-preserved c =
    numbers_more c.args.q.now c.args.stats.now c.args.s.now _ _ _ _ _ _ _
    (place_stays c.args.q.now c.args.stats.now c.args.s.now (table_of c.args.cells.now) c.args.set)
    c.loop-place.invariant c.in_ok-best.ensures
