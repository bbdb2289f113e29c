use Rattle.plan_trees.specs.Lists.{GainsAll, IsAccessOf, IsFullBefore}
use Rattle.plan_trees.proofs.listing.push_fulls.Given as goal

-- those before this number are there
abbrev pub invariant-loop-column : goal.invariant-loop-column
invariant-loop-column l =
    GainsAll (IsAccessOf l.q l.ix l.place) (IsFullBefore l.place l.column) l.initial.list.items l.list.items
