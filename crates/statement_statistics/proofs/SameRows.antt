-- The rows of a statement's own places are all that counts.
use Rattle.std.proofs.Common.{ℕ, ◌≡◌, ◌<◌, max, cond, List, [], ◌∷◌, length, map, ap, ◌∙◌, refl, arith, subst}
use Rattle.std.specs.Prelude.{◌^◌, All, IsSome, Option}
use Rattle.std.proofs.lemmas.List.Elements.{All-head, All-tail, All-weaker}
use Rattle.row_values.proofs.Fitting.{test_there}
use Rattle.row_values.specs.Statements.{IsEdge, IsPred, IsSoundQuery, Statement, is_parameterised, kind_at}
use Rattle.row_values.specs.declared.statement.Edge.{Edge}
use Rattle.row_values.specs.declared.statement.Place.{Place}
use Rattle.row_values.specs.declared.statement.Pred.{Pred}
use Rattle.row_values.specs.declared.values.Kind.{Kind}
use Rattle.row_values.specs.declared.values.Value.{Value}
use Rattle.plan_trees.specs.declared.statistics.Weights.{Weights}
use Rattle.plan_trees.proofs.SoundParts.{column_in_range}
use Rattle.statement_meaning.specs.Combinations.{rows_at}
use Rattle.statement_meaning.specs.Vectors.{matching, selectivities, vector_of}
use Rattle.statement_statistics.specs.Laws.{HaveSameRows}
use Rattle.statement_statistics.specs.Statistics.{distinct_count, edge_count, edge_counts, fan_count, fan_counts, first_above, first_wide, fixed_count, fixed_counts, matching_count, matching_counts, numbered, row_count, row_counts, stats_of}
use Rattle.statement_statistics.proofs.Numbered.{numbered_agree}

pub map_agree : {A B : Type 0} (f g : A → B) (P : A → Type 0) (xs : List A) → All P xs → ((x : A) → P x → f x ≡ g x)
    → map f xs ≡ map g xs
map_agree f g P [] all h = refl
map_agree {B = B} f g P (x ∷ xs) all h =
    ap (λ (y : B). y ∷ map f xs) (h x (All-head P x xs all))
    ∙ ap (λ (ys : List B). g x ∷ ys) (map_agree f g P xs (All-tail P x xs all) h)

-- the places of predicates and of edges are places of the statement
abbrev IsPlaced : List Place → Pred → Type 0
IsPlaced places pred = pred.at.place < length places

placed_preds : (q : Statement) → IsSoundQuery q → All (IsPlaced q.places) q.preds
placed_preds q sound =
    All-weaker (IsPred q.places) (IsPlaced q.places)
    (λ pred is. column_in_range q.places pred.at (test_there (kind_at q.places pred.at) pred.test is)) q.preds
    sound.preds

abbrev AreBothPlaced : List Place → Edge → Type 0
AreBothPlaced places edge = (edge.left.place < length places) × (edge.right.place < length places)

placed_edges : (q : Statement) → IsSoundQuery q → All (AreBothPlaced q.places) q.edges
placed_edges q sound =
    All-weaker (IsEdge q.places) (AreBothPlaced q.places)
    (λ edge is. (
      column_in_range q.places edge.left is.there,
      column_in_range q.places edge.right (subst (λ (k : Option Kind). IsSome k) is.one_kind is.there),
    )) q.edges sound.edges

module _ (q : Statement) (tables others : List (List (List Value))) (same : HaveSameRows q tables others) where
  same_row_counts : row_counts q tables ≡ row_counts q others
  same_row_counts =
      numbered_agree _ _ 0 q.places (λ i x l. ap row_count (same i (omega (arith, l))))

  same_fixed : fixed_counts q tables ≡ fixed_counts q others
  same_fixed =
      numbered_agree _ _ 0 q.places
      (λ i x l. ap (λ (rows : List (List Value)). fixed_count q.preds i rows) (same i (omega (arith, l))))

  same_matching : IsSoundQuery q → matching_counts q tables ≡ matching_counts q others
  same_matching sound =
      map_agree _ _ (IsPlaced q.places) q.preds (placed_preds q sound)
      (λ pred l. ap (λ (rows : List (List Value)). matching_count pred rows) (same pred.at.place l))

  same_edges : IsSoundQuery q → edge_counts q tables ≡ edge_counts q others
  same_edges sound =
      map_agree (edge_count tables) (edge_count others) (AreBothPlaced q.places) q.edges (placed_edges q sound)
      (λ edge l. ap (λ (rows : List (List Value)). max 1 (max (distinct_count rows edge.left.column)
      (distinct_count (rows_at tables edge.right.place) edge.right.column))) (same edge.left.place l.0)
      ∙ ap (λ (rows : List (List Value)). max 1
      (max (distinct_count (rows_at others edge.left.place) edge.left.column)
      (distinct_count rows edge.right.column))) (same edge.right.place l.1))

  same_fans : fan_counts q tables ≡ fan_counts q others
  same_fans =
      numbered_agree _ _ 0 q.places
      (λ i x l. ap (λ (rows : List (List Value)). numbered (λ column _. fan_count rows column) 0 x.schema)
      (same i (omega (arith, l))))

pub same_stats : (q : Statement) (tables others : List (List (List Value))) (indexed : List ℕ) (weights : Weights)
    → IsSoundQuery q → HaveSameRows q tables others
    → stats_of q tables indexed weights ≡ stats_of q others indexed weights
same_stats q tables others indexed weights sound same =
    rw (
      same_row_counts q tables others same,
      same_fixed q tables others same,
      same_matching q tables others same sound,
      same_edges q tables others same sound,
      same_fans q tables others same,
    ) refl

pub same_width : (q : Statement) (tables others : List (List (List Value))) → HaveSameRows q tables others
    → first_wide q tables ≡ first_wide q others
same_width q tables others same =
    ap (λ (rows : List ℕ). first_above (2 ^ 63) q.preds 0 1 rows) (same_row_counts q tables others same)

same_numbers : (tables others : List (List (List Value))) (args : List Value) (preds : List Pred) (places : List Place)
    → All (IsPlaced places) preds → ((place : ℕ) → place < length places → rows_at tables place ≡ rows_at others place)
    → selectivities tables args preds ≡ selectivities others args preds
same_numbers tables others args [] places all same = refl
same_numbers tables others args (pred ∷ preds) places all same =
    let here = same pred.at.place (All-head (IsPlaced places) pred preds all) in
    let more = same_numbers tables others args preds places (All-tail (IsPlaced places) pred preds all) same in
    ap (λ (rows : List (List Value)). cond (is_parameterised pred)
    (max 1 (matching args pred rows) ∷ selectivities tables args preds) (selectivities tables args preds)) here
    ∙ ap (λ (ns : List ℕ). cond (is_parameterised pred)
    (max 1 (matching args pred (rows_at others pred.at.place)) ∷ ns) ns) more

pub same_vector : (q : Statement) (tables others : List (List (List Value))) (args : List Value) → IsSoundQuery q
    → HaveSameRows q tables others → vector_of q tables args ≡ vector_of q others args
same_vector q tables others args sound same =
    same_numbers tables others args q.preds q.places (placed_preds q sound) same
