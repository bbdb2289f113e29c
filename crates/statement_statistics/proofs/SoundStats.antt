-- Over tables within their limits the statistics are sound, and the vector is.
use Rattle.std.proofs.Common.{◌⊎◌, inl, inr, lit≤, ℕ, zero, suc, ◌≡◌, ◌<◌, ◌≤◌, ◌+◌, ◌^◌, max, Bool, true, false, cond, List, [], ◌∷◌, length, map, get_or, ap, sym, ◌∙◌, refl, arith, subst}
use Rattle.std.specs.Prelude.{All, None, Some, slice_get, slice_index, slice_index_or}
use Rattle.std.proofs.lemmas.Bool.{cases_lt}
use Rattle.std.proofs.lemmas.List.{get_or_past, length-map}
use Rattle.std.proofs.lemmas.List.Elements.{All-head, All-map, All-tail}
use Rattle.std.proofs.lemmas.Option.{slice_get-get_or}
use Rattle.row_values.specs.Statements.{IsSoundQuery, Statement, is_parameterised}
use Rattle.row_values.specs.declared.statement.Edge.{Edge}
use Rattle.row_values.specs.declared.statement.Place.{Place}
use Rattle.row_values.specs.declared.statement.Pred.{Pred}
use Rattle.row_values.specs.declared.values.Value.{Value}
use Rattle.plan_trees.specs.Statistics.{AreWeights, IsSoundStats, IsSoundVector, IsWithin, selectivity_places}
use Rattle.plan_trees.specs.declared.statistics.Weights.{Weights}
use Rattle.statement_meaning.specs.Combinations.{rows_at}
use Rattle.statement_meaning.specs.Vectors.{matching, selectivities, vector_of}
use Rattle.statement_meaning.proofs.Counts.{length-selectivities}
use Rattle.statement_statistics.specs.Statistics.{edge_count, fan_count, fan_counts, first_wide, fixed_count, matching_count, numbered, row_count, row_counts, stats_of}
use Rattle.statement_statistics.proofs.Counts.{counted_within, fan_within, fixed_within, made_at, matching_within, pred_place}
use Rattle.statement_statistics.proofs.Numbered.{at_number, at_place, length-numbered}
use Rattle.statement_statistics.proofs.Widths.{none_wide}

-- the rows of a place
rows_here : (q : Statement) (tables : List (List (List Value))) (place : ℕ) → place < length q.places
    → slice_index (row_counts q tables) place ≡ row_count (rows_at tables place)
rows_here q tables place h = at_place (λ number. row_count (rows_at tables number)) q.places place 0 h

few_rows : (limit : ℕ) (tables : List (List (List Value))) (place : ℕ) → All (λ rows. length rows ≤ limit) tables
    → length (rows_at tables place) ≤ limit
few_rows limit tables place few = by_place (cases_lt place (length tables))
  where
    by_place : (place < length tables) ⊎ (length tables ≤ place) → length (rows_at tables place) ≤ limit
    by_place (inl h) = few place [] h
    by_place (inr past) = rw (get_or_past tables place [] past) (omega arith)

rows_within : (limit : ℕ) (q : Statement) (tables : List (List (List Value))) → 1 ≤ limit
    → All (λ rows. length rows ≤ limit) tables → All (IsWithin limit) (row_counts q tables)
rows_within limit q tables some few k d h =
    let inside : k < length q.places =
    omega (arith, h, length-numbered (λ number _. row_count (rows_at tables number)) 0 q.places) in
    let here = at_place (λ number. row_count (rows_at tables number)) q.places k d inside in
    let most = few_rows limit tables k few in
    rw here (record { low = omega arith; high = omega (arith, most, some) })

widths : (f : ℕ → ℕ → ℕ) (n : ℕ) (places : List Place)
    → map length (numbered (λ number place. numbered (λ column _. f number column) 0 place.schema) n places)
    ≡ map (λ place. length place.schema) places
widths f n [] = refl
widths f n (place ∷ places) =
    ap (λ (k : ℕ). k ∷ map length (numbered (λ number place. numbered (λ column _. f number column) 0 place.schema)
    (n + 1) places)) (length-numbered (λ column _. f n column) 0 place.schema)
    ∙ ap (λ (ks : List ℕ). length place.schema ∷ ks) (widths f (n + 1) places)

-- the fan of a column of a place
fan_there : (q : Statement) (tables : List (List (List Value))) (place column : ℕ) → place < length q.places
    → column < length (slice_index_or (fan_counts q tables) place [])
    → slice_index (slice_index_or (fan_counts q tables) place []) column ≡ fan_count (rows_at tables place) column
fan_there q tables place column inside wide =
    let it = at_number
    (λ number place. numbered (λ column _. fan_count (rows_at tables number) column) 0 place.schema) 0 q.places place []
    inside in
    let here : slice_index_or (fan_counts q tables) place []
    ≡ numbered (λ column _. fan_count (rows_at tables place) column) 0 it.0.schema =
    it.2 ∙ ap (λ (k : ℕ). numbered (λ column _. fan_count (rows_at tables k) column) 0 it.0.schema) (omega arith) in
    let long = length-numbered (λ column _. fan_count (rows_at tables place) column) 0 it.0.schema in
    ap (λ (fans : List ℕ). slice_index fans column) here
    ∙ at_place (fan_count (rows_at tables place)) it.0.schema column 0 (omega (arith, wide, ap length here, long))

edges_positive : (tables : List (List (List Value))) (edges : List Edge) → All (λ d. 1 ≤ d) (map (edge_count tables) edges)
edges_positive tables edges = All-map (λ d. 1 ≤ d) (edge_count tables) edges (λ k d h. omega arith)

pub sound_stats : (q : Statement) (tables : List (List (List Value))) (indexed : List ℕ) (weights : Weights)
    → IsSoundQuery q → All (λ rows. length rows ≤ 2 ^ 20) tables → AreWeights weights → first_wide q tables ≡ None
    → IsSoundStats q (stats_of q tables indexed weights)
sound_stats q tables indexed weights sound few are narrow = record {
  weights = are;
  row_counts = length-numbered _ 0 q.places;
  fixed_counts = length-numbered _ 0 q.places;
  matching_counts = length-map q.preds _;
  distinct_counts = length-map q.edges _;
  fan_counts = widths (λ number column. fan_count (rows_at tables number) column) 0 q.places;
  rows = rows_within (2 ^ 20) q tables (lit≤ tt) few;
  fixed = λ place inside.
      rw (
        rows_here q tables place inside,
        at_place (λ number. fixed_count q.preds number (rows_at tables number)) q.places place 0 inside,
      )
      (fixed_within q.preds place (rows_at tables place));
  matching = λ j pred at.
      rw (
        rows_here q tables pred.at.place (pred_place q sound j pred at),
        made_at (λ pred. matching_count pred (rows_at tables pred.at.place)) q.preds j pred at,
      )
      (matching_within pred (rows_at tables pred.at.place));
  distinct = edges_positive tables q.edges;
  fans = λ place column inside wide.
      rw (rows_here q tables place inside, fan_there q tables place column inside wide)
      (fan_within (rows_at tables place) column);
  not_wide = (none_wide q tables).0 narrow;
}

-- a predicate's number is within the limit of its place
abbrev IsCounted : List (List (List Value)) → List Value → (ℕ → ℕ) → Pred → Type 0
IsCounted tables args limit pred =
    IsWithin (limit pred.at.place) (max 1 (matching args pred (rows_at tables pred.at.place)))

-- the number of each parameterised predicate, beside its place
count_there : (tables : List (List (List Value))) (args : List Value) (limit : ℕ → ℕ) (preds : List Pred)
    → All (IsCounted tables args limit) preds
    → (i place : ℕ) → slice_get (selectivity_places preds) i ≡ Some place
    → IsWithin (limit place) (slice_index (selectivities tables args preds) i)
count_there tables args limit [] all i place at = cc
count_there tables args limit (pred ∷ preds) all i place at =
    by_kind (λ (j : ℕ) (e : slice_get (selectivity_places preds) j ≡ Some place).
    count_there tables args limit preds (All-tail (IsCounted tables args limit) pred preds all) j place e) (is_parameterised pred) refl
  where
    first : (j : ℕ) → slice_get (pred.at.place ∷ selectivity_places preds) j ≡ Some place
        → ((k : ℕ) → slice_get (selectivity_places preds) k ≡ Some place
        → IsWithin (limit place) (slice_index (selectivities tables args preds) k))
        → IsWithin (limit place)
        (slice_index (max 1 (matching args pred (rows_at tables pred.at.place)) ∷ selectivities tables args preds) j)
    first zero e more =
        let same : pred.at.place ≡ place = cc in
        subst (λ (p : ℕ). IsWithin (limit p) (max 1 (matching args pred (rows_at tables pred.at.place)))) same
        (All-head (IsCounted tables args limit) pred preds all)
    first (suc j) e more = more j e

    by_kind : ((j : ℕ) → slice_get (selectivity_places preds) j ≡ Some place
        → IsWithin (limit place) (slice_index (selectivities tables args preds) j)) → (b : Bool)
        → is_parameterised pred ≡ b
        → IsWithin (limit place) (slice_index (selectivities tables args (pred ∷ preds)) i)
    by_kind more true h =
        rw h (first i (sym (ap (λ (b : Bool). slice_get (cond b (pred.at.place ∷ selectivity_places preds)
        (selectivity_places preds)) i) h) ∙ at) more)
    by_kind more false h =
        rw h (more i (sym (ap (λ (b : Bool). slice_get (cond b (pred.at.place ∷ selectivity_places preds)
        (selectivity_places preds)) i) h) ∙ at))

pub sound_vector : (q : Statement) (tables : List (List (List Value))) (indexed : List ℕ) (weights : Weights)
    (args : List Value) → IsSoundQuery q
    → IsSoundVector q (stats_of q tables indexed weights) (vector_of q tables args)
sound_vector q tables indexed weights args sound = record {
  one_each = length-selectivities tables args q.preds;
  within =
      count_there tables args (λ place. slice_index (row_counts q tables) place) q.preds
      (λ j pred inside. here j pred inside);
}
  where
    here : (j : ℕ) (d : Pred) → j < length q.preds
        → IsWithin (slice_index (row_counts q tables) (get_or q.preds j d).at.place)
        (max 1 (matching args (get_or q.preds j d) (rows_at tables (get_or q.preds j d).at.place)))
    here j d inside =
        let at = slice_get-get_or q.preds j d inside in
        rw (rows_here q tables (get_or q.preds j d).at.place (pred_place q sound j (get_or q.preds j d) at))
        (counted_within args (get_or q.preds j d) (rows_at tables (get_or q.preds j d).at.place))
