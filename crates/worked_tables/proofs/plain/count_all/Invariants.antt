use Rattle.std.proofs.Common.{◌≤◌}
use Rattle.worked_tables.proofs.plain.count_all.Given as goal

abbrev pub invariant-loop-row : goal.invariant-loop-row
invariant-loop-row l = l.count ≤ l.row
