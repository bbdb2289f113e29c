use Rattle.std.proofs.Common.{◌≡◌, ◌+◌, ◌≤◌, drop}
use Rattle.plan_trees.specs.Statistics.{selectivities_on}
use Rattle.selectivity_counts.proofs.widths.selectivities_on.Given as goal

-- those so far, and those that are left
abbrev pub invariant-loop-pred : goal.invariant-loop-pred
invariant-loop-pred l = (l.count ≤ l.pred-index) × (l.count + selectivities_on l.place (drop l.pred-index l.preds)
    ≡ selectivities_on l.place l.preds)
