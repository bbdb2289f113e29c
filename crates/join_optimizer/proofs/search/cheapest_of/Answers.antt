use Rattle.join_optimizer.specs.Found.{table_of}
use Rattle.join_optimizer.proofs.Filling.{cell_feasible}
use Rattle.join_optimizer.proofs.search.cheapest_of.Goals as goal

pub returns-clause-feasible : goal.returns-clause-feasible
returns-clause-feasible c =
    cell_feasible c.args.q.now c.args.stats.now c.args.s.now
    (table_of c.args.cells.now) c.args.set _ _ _ _ c.in_ok-placed.ensures c.in_ok-joined.ensures c.in_ok-best.ensures
