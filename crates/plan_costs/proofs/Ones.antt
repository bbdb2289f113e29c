-- The vector of ones is sound: what fits at every sound vector fits without one.
use Rattle.std.proofs.Common.{ℕ, zero, suc, [], ◌∷◌, ◌≡◌, ◌≤◌, ◌<◌, ◌^◌, List, length, map, slice_get, slice_index}
use Rattle.std.proofs.Common.{slice_index_or, All, Some, ◌∙◌, subst, arith}
use Rattle.std.proofs.lemmas.List.{get_or-map, get_or_default, length-map}
use Rattle.std.proofs.lemmas.Option.{slice_get-get_or, slice_get_within}
use Rattle.row_values.specs.Statements.{Statement, IsSoundQuery}
use Rattle.plan_trees.specs.Statistics.{Statistics, IsSoundStats, IsSoundVector, IsWithin, selectivity_places}
use Rattle.cost_model.specs.Cardinalities.{product_over, selected_product, selected_rows}
use Rattle.cost_model.proofs.CostBounds.{fixed_few, rows_product_few, selected_few}
use Rattle.cost_model.proofs.SoundNumbers.{AreSized, are_sized, places_counted, places_there, vector_some}

abbrev pub ones_for : List ℕ → List ℕ
ones_for places = map (λ place. 1) places

-- a one for each parameterised predicate
abbrev pub ones : Statement → List ℕ
ones q = ones_for (selectivity_places q.preds)

ones_within : (q : Statement) (s : Statistics) (i place : ℕ) → IsSoundQuery q → IsSoundStats q s
    → slice_get (selectivity_places q.preds) i ≡ Some place
    → IsWithin (slice_index s.rows place) (slice_index (ones q) i)
ones_within q s i place h k on =
    let less : i < length (selectivity_places q.preds) = slice_get_within (selectivity_places q.preds) i place on in
    let one : slice_index (ones q) i ≡ 1 = get_or-map (λ place. 1) (selectivity_places q.preds) i 0 0 less in
    let found : slice_get (selectivity_places q.preds) i ≡ Some (slice_index (selectivity_places q.preds) i) =
    slice_get-get_or (selectivity_places q.preds) i 0 less in
    let same : slice_index (selectivity_places q.preds) i ≡ place = cc in
    let there = places_there q.places q.preds h.preds i less in
    let counts = k.row_counts in
    let some = (k.rows (slice_index (selectivity_places q.preds) i) 0 (omega arith)).low in
    subst (λ n. IsWithin (slice_index s.rows n) (slice_index (ones q) i)) same
    (record { low = omega arith; high = omega arith })

pub ones_sound : (q : Statement) (s : Statistics) → IsSoundQuery q → IsSoundStats q s → IsSoundVector q s (ones q)
ones_sound q s h k = record {
  one_each = length-map (selectivity_places q.preds) (λ place. 1) ∙ places_counted q.preds;
  within = λ i place on. ones_within q s i place h k on;
}

ones_from : (on : List ℕ) (i d : ℕ) → i < length (ones_for on) → 1 ≤ slice_index_or (ones_for on) i d
ones_from [] i d less = absurd (omega arith)
ones_from (t ∷ on) zero d less = omega arith
ones_from (t ∷ on) (suc i) d less = ones_from on i d (omega arith)

pub ones_counts : (q : Statement) → All (λ count. 1 ≤ count) (ones q)
ones_counts q i d less = ones_from (selectivity_places q.preds) i d less

pub sized : (q : Statement) (s : Statistics) → IsSoundQuery q → IsSoundStats q s → AreSized q s (ones q)
sized q s h k = are_sized q s (ones q) h k (ones_sound q s h k)

pub fixed_fits : (q : Statement) (s : Statistics) (set : ℕ) → IsSoundQuery q → IsSoundStats q s
    → product_over set 0 s.fixed ≤ 2 ^ 63
fixed_fits q s set h k = fixed_few q s (ones q) set (sized q s h k)

pub rows_fit : (q : Statement) (s : Statistics) (set : ℕ) → IsSoundQuery q → IsSoundStats q s
    → product_over set 0 s.rows ≤ 2 ^ 63
rows_fit q s set h k = rows_product_few q s (ones q) set (sized q s h k)

-- each number of a sound vector is at least 1
pub counts_some : (q : Statement) (s : Statistics) (vector : List ℕ) → IsSoundVector q s vector
    → All (λ count. 1 ≤ count) vector
counts_some q s vector v k d less =
    let some = vector_some q s vector v k less in
    let same = get_or_default vector k d 0 less in
    omega arith

-- The vector of all rows is sound too: the rows of the predicates' places multiply to no more than any sound vector
-- may.

all_rows_within : (q : Statement) (s : Statistics) (i place : ℕ) → IsSoundQuery q → IsSoundStats q s
    → slice_get (selectivity_places q.preds) i ≡ Some place
    → IsWithin (slice_index s.rows place) (slice_index (selected_rows q s) i)
all_rows_within q s i place h k on =
    let less : i < length (selectivity_places q.preds) = slice_get_within (selectivity_places q.preds) i place on in
    let read : slice_index (selected_rows q s) i ≡ slice_index s.rows (slice_index (selectivity_places q.preds) i) =
    get_or-map (slice_index s.rows) (selectivity_places q.preds) i 0 0 less in
    let found : slice_get (selectivity_places q.preds) i ≡ Some (slice_index (selectivity_places q.preds) i) =
    slice_get-get_or (selectivity_places q.preds) i 0 less in
    let same : slice_index (selectivity_places q.preds) i ≡ place = cc in
    let there = places_there q.places q.preds h.preds i less in
    let counts = k.row_counts in
    let some = (k.rows (slice_index (selectivity_places q.preds) i) 0 (omega arith)).low in
    subst (λ n. IsWithin (slice_index s.rows n) (slice_index (selected_rows q s) i)) same
    (record { low = omega arith; high = omega arith })

all_rows_sound : (q : Statement) (s : Statistics) → IsSoundQuery q → IsSoundStats q s
    → IsSoundVector q s (selected_rows q s)
all_rows_sound q s h k = record {
  one_each = length-map (selectivity_places q.preds) (slice_index s.rows) ∙ places_counted q.preds;
  within = λ i place on. all_rows_within q s i place h k on;
}

pub all_rows_fit : (q : Statement) (s : Statistics) (set : ℕ) → IsSoundQuery q → IsSoundStats q s
    → selected_product q set (selected_rows q s) ≤ 2 ^ 63
all_rows_fit q s set h k =
    selected_few q s (selected_rows q s) set (are_sized q s (selected_rows q s) h k (all_rows_sound q s h k))
