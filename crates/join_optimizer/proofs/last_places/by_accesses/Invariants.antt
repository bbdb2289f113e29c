use Rattle.plan_trees.specs.PlaceSets.{one}
use Rattle.join_optimizer.specs.Search.{Offered, TakesAccess, TakesEach}
use Rattle.join_optimizer.proofs.last_places.by_accesses.Given as goal

-- the accesses so far were taken
abbrev pub invariant-loop-access : goal.invariant-loop-access
invariant-loop-access l = Offered l.q l.stats l.s (one l.place)
    (TakesEach (TakesAccess l.q l.stats l.s) l.access-items l.access-index) l.fn.first l.best
