use Rattle.std.proofs.Common.{◌≡◌, ◌++◌, drop}
use Rattle.row_values.specs.Statements.{kinds_of}
use Rattle.row_values.proofs.statement.parameter_kinds.Given as goal

-- the predicates that are left add the rest
abbrev pub invariant-loop-pred : goal.invariant-loop-pred
invariant-loop-pred l = l.kinds ++ kinds_of l.places (drop l.pred-index l.preds) ≡ kinds_of l.places l.preds
