use Rattle.plan_trees.specs.Lists.{GainsAll, IsStepInto, IsProbeBefore}
use Rattle.plan_trees.proofs.listing.push_probes.Given as goal

-- those before this edge are there
abbrev pub invariant-loop-edge : goal.invariant-loop-edge
invariant-loop-edge l = GainsAll (IsStepInto l.q l.ix l.set l.place) (IsProbeBefore l.place l.edge) l.initial.list.items
    l.list.items
