use Rattle.std.proofs.Common.{◌≡◌}
use Rattle.pull_operators.specs.StillToCome.{index_from, index_to_come}
use Rattle.pull_operators.proofs.index_join.IndexJoin.first_made.Given as goal

-- the rows that were passed over make nothing
abbrev pub invariant-loop-position : goal.invariant-loop-position
invariant-loop-position l = index_to_come l.self ≡ index_from l.self l.position
