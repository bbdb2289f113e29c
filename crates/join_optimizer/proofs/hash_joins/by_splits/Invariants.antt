use Rattle.join_optimizer.specs.Found.{table_of}
use Rattle.cost_model.specs.LeastCost.{TakesSplit}
use Rattle.join_optimizer.specs.Search.{Offered, TakesBetween}
use Rattle.join_optimizer.proofs.hash_joins.by_splits.Given as goal

-- the inner sides so far were taken
abbrev pub invariant-loop-right : goal.invariant-loop-right
invariant-loop-right l = Offered l.q l.stats l.s l.set
    (TakesBetween (TakesSplit l.q l.stats l.s (table_of l.cells) l.set) 1 l.right) l.fn.first l.best
