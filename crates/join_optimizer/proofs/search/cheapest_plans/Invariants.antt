use Rattle.join_optimizer.specs.Search.{AreCheapest}
use Rattle.join_optimizer.proofs.search.cheapest_plans.Given as goal

-- the sets so far were searched
abbrev pub invariant-loop-set : goal.invariant-loop-set
invariant-loop-set l = AreCheapest l.q l.stats l.s l.cells.items l.set
