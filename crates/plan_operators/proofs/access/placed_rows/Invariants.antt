use Rattle.std.proofs.Common.{◌≡◌, take, map}
use Rattle.statement_meaning.specs.PartialCombinations.{placed}
use Rattle.plan_operators.specs.Sources.{world_read}
use Rattle.plan_operators.proofs.access.placed_rows.Given as goal

abbrev pub invariant-loop-position : goal.invariant-loop-position
invariant-loop-position l = l.combos.items ≡ map (placed (world_read l.source) l.place) (take l.position l.rows)
