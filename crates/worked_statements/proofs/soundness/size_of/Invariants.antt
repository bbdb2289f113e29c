use Rattle.std.proofs.Common.{◌≡◌, ◌*◌, drop}
use Rattle.plan_trees.specs.Statistics.{weighted_size}
use Rattle.worked_statements.proofs.soundness.size_of.Given as goal

-- the places that are left multiply to the rest
abbrev pub invariant-loop-place : goal.invariant-loop-place
invariant-loop-place l = l.size * weighted_size l.preds l.place (drop l.place l.rows) ≡ weighted_size l.preds 0 l.rows
