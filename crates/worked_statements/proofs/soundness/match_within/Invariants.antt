use Rattle.std.proofs.Common.{ℕ, ◌≡◌, ◌<◌, Some, slice_get, slice_index}
use Rattle.row_values.specs.declared.statement.Pred.{Pred}
use Rattle.plan_trees.specs.Statistics.{IsWithin}
use Rattle.worked_statements.proofs.soundness.match_within.Given as goal

abbrev pub invariant-loop-j : goal.invariant-loop-j
invariant-loop-j l =
    (j : ℕ) (pred : Pred) → j < l.j → slice_get l.preds j ≡ Some pred
    → IsWithin (slice_index l.rows pred.at.place) (slice_index l.matching j)
