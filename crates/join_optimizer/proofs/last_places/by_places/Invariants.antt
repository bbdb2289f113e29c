use Rattle.join_optimizer.specs.Found.{nothing, table_of}
use Rattle.cost_model.specs.LeastCost.{TakesPlace}
use Rattle.join_optimizer.specs.Search.{Offered, TakesBetween}
use Rattle.join_optimizer.proofs.last_places.by_places.Given as goal

-- the places so far were taken
abbrev pub invariant-loop-place : goal.invariant-loop-place
invariant-loop-place l = Offered l.q l.stats l.s l.set
    (TakesBetween (TakesPlace l.q l.stats l.s (table_of l.cells) l.set) 0 l.place) nothing l.best
