use Rattle.std.proofs.Common.{◌<◌, ◌≤◌, ◌-◌, length}
use Rattle.result_shape.specs.Groups.{LiesBetween}
use Rattle.result_shape.proofs.runs.run_of.Given as goal

abbrev pub invariant-loop-high : goal.invariant-loop-high
invariant-loop-high l = record {
  some : l.low < l.high;
  bound : l.high ≤ length l.runs;
  between : LiesBetween l.keys l.c l.runs l.low l.high;
}

abbrev pub decreases-loop-high : goal.decreases-loop-high
decreases-loop-high l = l.high - l.low
