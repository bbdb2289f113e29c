-- Lists of numbers that fit a statement, told from the front as tests walk them.
use Rattle.std.specs.Prelude.{ℕ, ◌≡◌, ◌<◌, ◌≤◌, ◌+◌, true, false, List, [], ◌∷◌, length, take, drop, All, slice_get}
use Rattle.std.specs.Prelude.{slice_index, Some, ◌^◌}
use Rattle.row_values.specs.Statements.{Statement, is_parameterised}
use Rattle.row_values.specs.declared.statement.Place.{Place}
use Rattle.row_values.specs.declared.statement.Pred.{Pred}
use Rattle.plan_trees.specs.declared.statistics.Weights.{Weights}
use Rattle.plan_trees.specs.Statistics.{AreWeights, IsWithin, weighted_size}

-- a number for each column of these places, which are numbered from `next` on, at most the rows of the place
abbrev pub DoFansFit : List ℕ → ℕ → List Place → List ℕ → Type 0
DoFansFit rows next [] fans = length fans ≡ 0
DoFansFit rows next (place ∷ places) fans =
    (length place.schema ≤ length fans)
    × All (IsWithin (slice_index rows next)) (take (length place.schema) fans)
    × DoFansFit rows (next + 1) places (drop (length place.schema) fans)

-- a number for each parameterised predicate, at most the rows of its place
abbrev pub DoesVectorFit : List ℕ → List Pred → List ℕ → Type 0
DoesVectorFit rows [] vector = length vector ≡ 0
DoesVectorFit rows (pred ∷ preds) vector =
    (is_parameterised pred ≡ true → (0 < length vector)
    × IsWithin (slice_index rows pred.at.place) (slice_index vector 0) × DoesVectorFit rows preds (drop 1 vector))
    × (is_parameterised pred ≡ false → DoesVectorFit rows preds vector)

-- the numbers fit the statement, list by list
pub record ArePartsSound (q : Statement) (rows fixed matching distinct fans : List ℕ) (weights : Weights) : Type 0 where
  pub weights_fit : AreWeights weights
  pub row_counts : length rows ≡ length q.places
  pub fixed_counts : length fixed ≡ length q.places
  pub matching_counts : length matching ≡ length q.preds
  pub distinct_counts : length distinct ≡ length q.edges
  pub rows_fit : All (IsWithin (2 ^ 20)) rows
  pub fixed_fit : (k : ℕ) → k < length fixed → IsWithin (slice_index rows k) (slice_index fixed k)
  pub matching_fit : (j : ℕ) (pred : Pred) → slice_get q.preds j ≡ Some pred
      → IsWithin (slice_index rows pred.at.place) (slice_index matching j)
  pub distinct_fit : All (λ d. 1 ≤ d) distinct
  pub fans_fit : DoFansFit rows 0 q.places fans
  pub not_wide : weighted_size q.preds 0 rows ≤ 2 ^ 63
