use Rattle.std.proofs.Common.{◌≤◌}
use Rattle.report_verifier.proofs.tests.walked.Given as goal

-- no line makes more than one version
abbrev pub invariant-loop-line : goal.invariant-loop-line
invariant-loop-line l = record { few : l.number ≤ 100; made : l.verifier.catalog.versions ≤ l.number }
