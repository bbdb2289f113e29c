-- The statistics of a statement over its tables: plain counts over their rows.
use Rattle.std.specs.Prelude.{ℕ, ◌+◌, ◌*◌, ◌^◌, max, List, [], ◌∷◌, length, map, filter, not, nat_lt, if◌then◌else◌}
use Rattle.std.specs.Prelude.{Option, None, Some, slice_get}
use Rattle.std.specs.Int.{div_ceil}
use Rattle.std.specs.Ordering.{is_eq}
use Rattle.row_values.specs.Orders.{cell_order}
use Rattle.row_values.specs.Sorting.{heads}
use Rattle.row_values.specs.Statements.{Statement, is_parameterised}
use Rattle.row_values.specs.declared.statement.Edge.{Edge}
use Rattle.row_values.specs.declared.statement.Pred.{Pred}
use Rattle.row_values.specs.declared.values.Value.{Value}
use Rattle.plan_trees.specs.Statistics.{Statistics, selectivities_on}
use Rattle.plan_trees.specs.declared.statistics.Weights.{Weights}
use Rattle.statement_meaning.specs.Combinations.{rows_at}
use Rattle.statement_meaning.specs.Conditions.{row_passes}
use Rattle.statement_meaning.specs.Vectors.{matching}

-- what a function makes of each element and its number, from this number on
abbrev pub numbered : {A B : Type 0} → (ℕ → A → B) → ℕ → List A → List B
numbered f number [] = []
numbered f number (x ∷ xs) = f number x ∷ numbered f (number + 1) xs

-- the rows of a table, at least 1
abbrev pub row_count : List (List Value) → ℕ
row_count rows = max 1 (length rows)

-- the fixed predicates
abbrev pub fixed_preds : List Pred → List Pred
fixed_preds preds = filter (λ pred. not (is_parameterised pred)) preds

-- the rows of a place that meet all fixed predicates on it, at least 1
abbrev pub fixed_count : List Pred → ℕ → List (List Value) → ℕ
fixed_count preds place rows = max 1 (length (filter (row_passes [] (fixed_preds preds) place) rows))

-- the rows that meet a fixed predicate alone, at least 1; 1 for a parameterised one
abbrev pub matching_count : Pred → List (List Value) → ℕ
matching_count pred rows = if is_parameterised pred then 1 else max 1 (matching [] pred rows)

-- the distinct cells of a column
abbrev pub distinct_count : List (List Value) → ℕ → ℕ
distinct_count rows column = length (heads (λ a b. is_eq (cell_order a b)) (map (λ row. slice_get row column) rows))

-- the larger of the distinct counts of an edge's two columns, at least 1
abbrev pub edge_count : List (List (List Value)) → Edge → ℕ
edge_count tables edge =
    max 1 (max (distinct_count (rows_at tables edge.left.place) edge.left.column)
    (distinct_count (rows_at tables edge.right.place) edge.right.column))

-- the rows for each distinct cell of a column, rounded up
abbrev pub fan_count : List (List Value) → ℕ → ℕ
fan_count rows column = div_ceil (row_count rows) (max 1 (distinct_count rows column))

-- The lists of these counts: one for each place, for each column of a place, for each predicate, for each edge.

abbrev pub row_counts : Statement → List (List (List Value)) → List ℕ
row_counts q tables = numbered (λ number place. row_count (rows_at tables number)) 0 q.places

abbrev pub fixed_counts : Statement → List (List (List Value)) → List ℕ
fixed_counts q tables = numbered (λ number place. fixed_count q.preds number (rows_at tables number)) 0 q.places

abbrev pub matching_counts : Statement → List (List (List Value)) → List ℕ
matching_counts q tables = map (λ pred. matching_count pred (rows_at tables pred.at.place)) q.preds

abbrev pub edge_counts : Statement → List (List (List Value)) → List ℕ
edge_counts q tables = map (edge_count tables) q.edges

abbrev pub fan_counts : Statement → List (List (List Value)) → List (List ℕ)
fan_counts q tables =
    numbered (λ number place. numbered (λ column _. fan_count (rows_at tables number) column) 0 place.schema) 0 q.places

-- the statistics of a statement over the tables of its places, also of a wide one
abbrev pub stats_of : Statement → List (List (List Value)) → List ℕ → Weights → Statistics
stats_of q tables indexed weights = record {
  rows = row_counts q tables;
  fixed = fixed_counts q tables;
  matching = matching_counts q tables;
  distinct = edge_counts q tables;
  fans = fan_counts q tables;
  indexed = indexed;
  weights = weights;
}

-- the first place at which the product of the places up to it, times what stands before them, passes a limit: each
-- place counts its rows once for each parameterised predicate on it, and at least once
abbrev pub first_above : ℕ → List Pred → ℕ → ℕ → List ℕ → Option ℕ
first_above limit preds place before [] = None
first_above limit preds place before (n ∷ rows) =
    if nat_lt limit (before * n ^ max 1 (selectivities_on place preds)) then Some place
    else first_above limit preds (place + 1) (before * n ^ max 1 (selectivities_on place preds)) rows

-- the first place at which that product passes 2^63, where the statement is wide
abbrev pub first_wide : Statement → List (List (List Value)) → Option ℕ
first_wide q tables = first_above (2 ^ 63) q.preds 0 1 (row_counts q tables)
