-- The numbers that plans are costed by, and when they fit a statement.
use Rattle.std.specs.Prelude.{ℕ, ◌≡◌, ◌<◌, ◌≤◌, ◌+◌, ◌*◌, ◌^◌, ◌==◌, ◌&&◌, max, List, [], ◌∷◌, length, map, sum_by, All}
use Rattle.std.specs.Prelude.{take, drop, slice_get, slice_index, slice_index_or, Some, if◌then◌else◌}
use Rattle.row_values.specs.Statements.{Statement, is_parameterised, selectivity_count}
use Rattle.row_values.specs.declared.statement.Place.{Place}
use Rattle.row_values.specs.declared.statement.Pred.{Pred}
use Rattle.plan_trees.specs.declared.statistics.Weights.{Weights}

-- What is kept: of each place its rows, those that meet its fixed predicates, and for each column the rows per
-- distinct value; of each predicate the rows that meet it, of each edge its distinct values; indexes and weights.
pub record Statistics : Type 0 where
  pub rows : List ℕ
  pub fixed : List ℕ
  pub matching : List ℕ
  pub distinct : List ℕ
  pub fans : List (List ℕ)
  pub indexed : List ℕ
  pub weights : Weights

-- a list of numbers, as many as each place has columns
abbrev pub by_place : List Place → List ℕ → List (List ℕ)
by_place [] numbers = []
by_place (place ∷ places) numbers =
    take (length place.schema) numbers ∷ by_place places (drop (length place.schema) numbers)

abbrev pub column_count : List Place → ℕ
column_count places = sum_by (λ place. length place.schema) places

abbrev pub fan_at : Statistics → ℕ → ℕ → ℕ
fan_at s place column = slice_index (slice_index_or s.fans place []) column

-- how many parameterised predicates are on the place
abbrev pub selectivities_on : ℕ → List Pred → ℕ
selectivities_on place [] = 0
selectivities_on place (pred ∷ preds) =
    (if is_parameterised pred && pred.at.place == place then 1 else 0) + selectivities_on place preds

-- the places of the parameterised predicates, in text order
abbrev pub selectivity_places : List Pred → List ℕ
selectivity_places [] = []
selectivity_places (pred ∷ preds) =
    if is_parameterised pred then pred.at.place ∷ selectivity_places preds else selectivity_places preds

-- the product of the rows of each place, once for each parameterised predicate on it and at least once
abbrev pub weighted_size : List Pred → ℕ → List ℕ → ℕ
weighted_size preds place [] = 1
weighted_size preds place (n ∷ rows) = n ^ max 1 (selectivities_on place preds) * weighted_size preds (place + 1) rows

-- from 1 to this limit
pub record IsWithin (limit number : ℕ) : Type 0 where
  pub low : 1 ≤ number
  pub high : number ≤ limit

pub record AreWeights (w : Weights) : Type 0 where
  pub row : IsWithin 1000 w.row
  pub fetch : IsWithin 1000 w.fetch
  pub probe : IsWithin 1000 w.probe
  pub hash : IsWithin 1000 w.hash
  pub sort : IsWithin 1000 w.sort
  pub out : IsWithin 1000 w.out

-- the numbers fit the statement
pub record IsSoundStats (q : Statement) (s : Statistics) : Type 0 where
  pub weights : AreWeights s.weights
  pub row_counts : length s.rows ≡ length q.places
  pub fixed_counts : length s.fixed ≡ length q.places
  pub matching_counts : length s.matching ≡ length q.preds
  pub distinct_counts : length s.distinct ≡ length q.edges
  pub fan_counts : map length s.fans ≡ map (λ place. length place.schema) q.places
  pub rows : All (IsWithin (2 ^ 20)) s.rows
  pub fixed : (place : ℕ) → place < length q.places → IsWithin (slice_index s.rows place) (slice_index s.fixed place)
  pub matching : (j : ℕ) (pred : Pred) → slice_get q.preds j ≡ Some pred
      → IsWithin (slice_index s.rows pred.at.place) (slice_index s.matching j)
  pub distinct : All (λ d. 1 ≤ d) s.distinct
  pub fans : (place column : ℕ) → place < length q.places → column < length (slice_index_or s.fans place [])
      → IsWithin (slice_index s.rows place) (fan_at s place column)
  pub not_wide : weighted_size q.preds 0 s.rows ≤ 2 ^ 63

-- one count for each parameterised predicate, each from 1 to the rows of its place
pub record IsSoundVector (q : Statement) (s : Statistics) (vector : List ℕ) : Type 0 where
  pub one_each : length vector ≡ selectivity_count q.preds
  pub within : (i place : ℕ) → slice_get (selectivity_places q.preds) i ≡ Some place
      → IsWithin (slice_index s.rows place) (slice_index vector i)

abbrev pub statistics_of : List Place → List ℕ → List ℕ → List ℕ → List ℕ → List ℕ → List ℕ → Weights → Statistics
statistics_of places rows fixed matching distinct fans indexed weights =
    record {
      rows = rows;
      fixed = fixed;
      matching = matching;
      distinct = distinct;
      fans = by_place places fans;
      indexed = indexed;
      weights = weights;
    }
