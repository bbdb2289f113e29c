use Rattle.std.proofs.Common.{◌≡◌, ◌+◌, ◌≤◌, drop}
use Rattle.plan_trees.specs.Statistics.{selectivities_on}
use Rattle.worked_statements.proofs.soundness.selectivities_on.Given as goal

-- the predicates that are left add the rest
abbrev pub invariant-loop-pred : goal.invariant-loop-pred
invariant-loop-pred l = (l.count ≤ l.pred-index) × (l.count + selectivities_on l.place (drop l.pred-index l.preds)
    ≡ selectivities_on l.place l.preds)
