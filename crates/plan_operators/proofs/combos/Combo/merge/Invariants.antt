use Rattle.std.proofs.Common.{◌≡◌, length}
use Rattle.plan_trees.specs.PlaceSets.{has}
use Rattle.statement_meaning.proofs.Merging.{IsMergedTo}
use Rattle.plan_operators.proofs.combos.Combo.merge.Given as goal

-- the places so far have the rows that they are to have
abbrev pub invariant-loop-place : goal.invariant-loop-place
invariant-loop-place l = record {
  long : length l.made ≡ length l.fn.second;
  so_far : IsMergedTo (has l.set) l.first l.fn.second l.place l.made;
}
