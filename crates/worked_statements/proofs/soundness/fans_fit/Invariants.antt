use Rattle.std.proofs.Common.{drop}
use Rattle.worked_statements.specs.Fitting.{DoFansFit}
use Rattle.worked_statements.proofs.soundness.fans_fit.Given as goal

-- what is left decides
abbrev pub invariant-loop-i : goal.invariant-loop-i
invariant-loop-i l = DoFansFit l.rows l.i (drop l.i l.places) l.rest → DoFansFit l.rows 0 l.places l.fans
