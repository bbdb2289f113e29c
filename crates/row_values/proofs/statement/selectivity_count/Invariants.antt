use Rattle.std.proofs.Common.{◌≡◌, ◌+◌, ◌≤◌, drop}
use Rattle.row_values.specs.Statements.{selectivity_count}
use Rattle.row_values.proofs.statement.selectivity_count.Given as goal

-- the predicates that are left add the rest
abbrev pub invariant-loop-pred : goal.invariant-loop-pred
invariant-loop-pred l =
    (l.count ≤ l.pred-index) × (l.count + selectivity_count (drop l.pred-index l.preds) ≡ selectivity_count l.preds)
