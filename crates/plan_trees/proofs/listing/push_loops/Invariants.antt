use Rattle.plan_trees.specs.Lists.{GainsAll, IsStepInto, IsLoopAmong}
use Rattle.plan_trees.proofs.listing.push_loops.Given as goal

-- those before this access are there
abbrev pub invariant-loop-access : goal.invariant-loop-access
invariant-loop-access l =
    GainsAll (IsStepInto l.q l.ix l.set l.place) (IsLoopAmong l.accesses l.access-index) l.initial.list.items
    l.list.items
