use Rattle.std.proofs.Common.{drop}
use Rattle.worked_statements.specs.Fitting.{DoesVectorFit}
use Rattle.worked_statements.proofs.soundness.does_vector_fit.Given as goal

-- what is left decides
abbrev pub invariant-loop-pred : goal.invariant-loop-pred
invariant-loop-pred l = DoesVectorFit l.stats.rows (drop l.pred-index l.preds) l.rest
    → DoesVectorFit l.stats.rows l.preds l.vector
