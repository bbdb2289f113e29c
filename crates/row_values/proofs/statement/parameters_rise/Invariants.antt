use Rattle.std.proofs.Common.{◌≡◌, ◌*◌, ◌≤◌, drop}
use Rattle.row_values.specs.Statements.{are_numbered, parameters_of}
use Rattle.row_values.proofs.statement.parameters_rise.Given as goal

-- the predicates that are left decide
abbrev pub invariant-loop-pred : goal.invariant-loop-pred
invariant-loop-pred l =
    (l.next ≤ 16 * l.pred-index) × (are_numbered l.next (parameters_of (drop l.pred-index l.preds))
    ≡ are_numbered 0 (parameters_of l.preds))
