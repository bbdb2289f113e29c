use Rattle.std.proofs.Common.{◌≡◌}
use Rattle.pull_operators.specs.StillToCome.{hash_from, hash_to_come}
use Rattle.pull_operators.proofs.hash_join.HashJoin.first_made.Given as goal

-- the combinations that were passed over make nothing
abbrev pub invariant-loop-position : goal.invariant-loop-position
invariant-loop-position l = hash_to_come l.self ≡ hash_from l.self l.position
