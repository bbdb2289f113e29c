use Rattle.std.proofs.Common.{◌≡◌}
use Rattle.result_shape.specs.Groups.{groups_in}
use Rattle.result_shape.proofs.runs.joined.Given as goal

-- the groups of the runs so far
abbrev pub invariant-loop-run : goal.invariant-loop-run
invariant-loop-run l = l.groups.items ≡ groups_in l.yielded
