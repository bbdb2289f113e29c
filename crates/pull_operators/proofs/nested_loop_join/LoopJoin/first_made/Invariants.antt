use Rattle.std.proofs.Common.{◌≡◌}
use Rattle.pull_operators.specs.StillToCome.{loop_from, loop_to_come}
use Rattle.pull_operators.proofs.nested_loop_join.LoopJoin.first_made.Given as goal

-- the rows that were passed over make nothing
abbrev pub invariant-loop-position : goal.invariant-loop-position
invariant-loop-position l = loop_to_come l.self ≡ loop_from l.self l.position
