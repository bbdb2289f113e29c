use Rattle.plan_trees.specs.Lists.{GainsAll, IsAccessOf, IsRangeBefore}
use Rattle.plan_trees.proofs.listing.push_ranges.Given as goal

-- those before this number are there
abbrev pub invariant-loop-number : goal.invariant-loop-number
invariant-loop-number l =
    GainsAll (IsAccessOf l.q l.ix l.place) (IsRangeBefore l.place l.number) l.initial.list.items l.list.items
