-- Lists that fit, position by position.
use Rattle.std.proofs.Common.{ℕ, zero, suc, ◌≡◌, ◌<◌, ◌+◌, ◌*◌, ◌^◌, ◌⊎◌, inl, inr, max, Bool, true, false, List, []}
use Rattle.std.proofs.Common.{◌∷◌, length, map, take, drop, slice_get, slice_index, slice_index_or, Some, sym, refl}
use Rattle.std.proofs.Common.{subst, subst₂, arith, add-one, mul_assoc, length-drop, if◌then◌else◌}
use Rattle.std.proofs.Math.Seq.{drop-cons}
use Rattle.std.proofs.lemmas.List.{length-take-le}
use Rattle.std.proofs.lemmas.List.Sums.{sum_by-cons}
use Rattle.std.proofs.lemmas.Option.{slice_get-get_or}
use Rattle.row_values.specs.Statements.{Statement, is_parameterised, selectivity_count}
use Rattle.row_values.specs.declared.statement.Place.{Place}
use Rattle.row_values.specs.declared.statement.Pred.{Pred}
use Rattle.plan_trees.specs.declared.statistics.Weights.{Weights}
use Rattle.plan_trees.specs.Statistics.{IsSoundStats, IsSoundVector, IsWithin, Statistics, by_place, column_count}
use Rattle.plan_trees.specs.Statistics.{selectivities_on, selectivity_places, statistics_of, weighted_size}
use Rattle.plan_trees.proofs.ListLaws.{below_next}
use Rattle.worked_statements.specs.Fitting.{ArePartsSound, DoFansFit, DoesVectorFit}

-- Predicates.

abbrev pub MatchBefore : List Pred → List ℕ → List ℕ → ℕ → Type 0
MatchBefore preds rows matching count =
    (j : ℕ) (pred : Pred) → j < count → slice_get preds j ≡ Some pred
    → IsWithin (slice_index rows pred.at.place) (slice_index matching j)

match_by : (preds : List Pred) (rows matching : List ℕ) (count : ℕ) (here : Pred) → count < length preds
    → here ≡ slice_index_or preds count here → IsWithin (slice_index rows here.at.place) (slice_index matching count)
    → MatchBefore preds rows matching count → (j : ℕ) (pred : Pred) → (j < count) ⊎ (j ≡ count) → slice_get preds j
    ≡ Some pred → IsWithin (slice_index rows pred.at.place) (slice_index matching j)
match_by preds rows matching count here less e within before j pred (inl earlier) there = before j pred earlier there
match_by preds rows matching count here less e within before j pred (inr same) there =
    let found : slice_get preds count ≡ Some (slice_index_or preds count here) = slice_get-get_or preds count here less
    in
    let now : slice_get preds count ≡ Some pred = rw (← same) there in
    let one : here ≡ pred = cc in
    subst₂ (λ (p : Pred) k. IsWithin (slice_index rows p.at.place) (slice_index matching k)) one (sym same) within

pub match_next : (preds : List Pred) (rows matching : List ℕ) (count : ℕ) (here : Pred) → count < length preds
    → here ≡ slice_index_or preds count here → IsWithin (slice_index rows here.at.place) (slice_index matching count)
    → MatchBefore preds rows matching count → MatchBefore preds rows matching (count + 1)
match_next preds rows matching count here less e within before j pred earlier there =
    match_by preds rows matching count here less e within before j pred (below_next j count earlier) there

-- Fans.

pub fans_counted : (rows : List ℕ) (next : ℕ) (places : List Place) (fans : List ℕ) → DoFansFit rows next places fans
    → length fans ≡ column_count places
fans_counted rows next [] fans h = h
fans_counted rows next (place ∷ places) fans h =
    let rest = fans_counted rows (next + 1) places (drop (length place.schema) fans) h.2 in
    let left = length-drop (length place.schema) fans in
    let wide = h.0 in
    let more = sum_by-cons (λ (p : Place). length p.schema) place places in
    omega arith

fan_lists : (rows : List ℕ) (next : ℕ) (places : List Place) (fans : List ℕ) → DoFansFit rows next places fans
    → map length (by_place places fans) ≡ map (λ place. length place.schema) places
fan_lists rows next [] fans h = refl
fan_lists rows next (place ∷ places) fans h =
    rw (
      length-take-le (length place.schema) fans h.0,
      fan_lists rows (next + 1) places
          (drop (length place.schema) fans) h.2,
    ) refl

fan_within : (rows : List ℕ) (next : ℕ) (places : List Place) (fans : List ℕ) → DoFansFit rows next places fans
    → (place column at : ℕ) → at ≡ next + place → place < length places
    → column < length (slice_index_or (by_place places fans) place [])
    → IsWithin (slice_index rows at) (slice_index (slice_index_or (by_place places fans) place []) column)
fan_within rows next [] fans h place column at e there inside = absurd (omega arith)
fan_within rows next (p ∷ places) fans h zero column at e there inside =
    let same : next ≡ at = omega arith in
    subst (λ n. IsWithin (slice_index rows n) (slice_index (take (length p.schema) fans) column)) same
    (h.1 column 0 inside)
fan_within rows next (p ∷ places) fans h (suc place) column at e there inside =
    fan_within rows (next + 1) places (drop (length p.schema) fans) h.2 place column at (omega arith)
    (omega arith) inside

-- Sizes.

pub size_next : (preds : List Pred) (rows : List ℕ) (place size n : ℕ) → place < length rows
    → n ≡ slice_index rows place
    → (size * n ^ max 1 (selectivities_on place preds)) * weighted_size preds (place + 1) (drop (place + 1) rows)
    ≡ size * weighted_size preds place (drop place rows)
size_next preds rows place size n less here = rw (drop-cons rows place 0 less, add-one, ← here) (mul_assoc size _ _)

-- Vectors.

counted_by : (b : Bool) (rows : List ℕ) (pred : Pred) (preds : List Pred) (vector : List ℕ)
    → ((rest : List ℕ) → DoesVectorFit rows preds rest → length rest ≡ selectivity_count preds) → is_parameterised pred
    ≡ b
    → DoesVectorFit rows (pred ∷ preds) vector → length vector ≡ (if b then 1 else 0) + selectivity_count preds
counted_by true rows pred preds vector deeper e h =
    let here = h.0 e in
    let some = here.0 in
    let rest = deeper (drop 1 vector) here.2 in
    let left = length-drop 1 vector in
    omega arith
counted_by false rows pred preds vector deeper e h = let rest = deeper vector (h.1 e) in omega arith

vector_counted : (rows : List ℕ) (preds : List Pred) (vector : List ℕ) → DoesVectorFit rows preds vector → length vector
    ≡ selectivity_count preds
vector_counted rows [] vector h = h
vector_counted rows (pred ∷ preds) vector h =
    counted_by (is_parameterised pred) rows pred preds vector (vector_counted rows preds) refl h

abbrev Fits : List ℕ → List ℕ → List ℕ → Type 0
Fits rows places vector = (i place : ℕ) → slice_get places i ≡ Some place
    → IsWithin (slice_index rows place) (slice_index vector i)

fits_more : (rows : List ℕ) (at : ℕ) (places vector : List ℕ) → 0 < length vector
    → IsWithin (slice_index rows at) (slice_index vector 0) → Fits rows places (drop 1 vector)
    → Fits rows (at ∷ places) vector
fits_more rows at places [] some here rest i place there = absurd (omega arith)
fits_more rows at places (v ∷ vector) some here rest zero place there =
    let same : at ≡ place = cc in
    subst (λ p. IsWithin (slice_index rows p) v) same here
fits_more rows at places (v ∷ vector) some here rest (suc i) place there = rest i place there

within_by : (b : Bool) (rows : List ℕ) (pred : Pred) (preds : List Pred) (vector : List ℕ)
    → ((rest : List ℕ) → DoesVectorFit rows preds rest → Fits rows (selectivity_places preds) rest)
    → is_parameterised pred ≡ b
    → DoesVectorFit rows (pred ∷ preds) vector
    → Fits rows (if b then pred.at.place ∷ selectivity_places preds else selectivity_places preds) vector
within_by true rows pred preds vector deeper e h =
    let here = h.0 e in
    fits_more rows pred.at.place (selectivity_places preds) vector here.0 here.1 (deeper (drop 1 vector) here.2)
within_by false rows pred preds vector deeper e h = deeper vector (h.1 e)

none_fit : (rows vector : List ℕ) → Fits rows [] vector
none_fit rows vector i place there = cc

vector_within : (rows : List ℕ) (preds : List Pred) (vector : List ℕ) → DoesVectorFit rows preds vector
    → Fits rows (selectivity_places preds) vector
vector_within rows [] vector h = none_fit rows vector
vector_within rows (pred ∷ preds) vector h =
    within_by (is_parameterised pred) rows pred preds vector (vector_within rows preds) refl h

pub vector_sound : (q : Statement) (s : Statistics) (vector : List ℕ) → DoesVectorFit s.rows q.preds vector
    → IsSoundVector q s vector
vector_sound q s vector h = record {
  one_each = vector_counted s.rows q.preds vector h;
  within =
      vector_within s.rows q.preds vector h;
}

-- The whole.

pub numbers_counted : (q : Statement) (rows fixed matching distinct fans : List ℕ) (weights : Weights)
    → ArePartsSound q rows fixed matching distinct fans weights → length fans ≡ column_count q.places
numbers_counted q rows fixed matching distinct fans weights h = fans_counted rows 0 q.places fans h.fans_fit

pub numbers_sound : (q : Statement) (rows fixed matching distinct fans indexed : List ℕ) (weights : Weights)
    → ArePartsSound q rows fixed matching distinct fans weights
    → IsSoundStats q (statistics_of q.places rows fixed matching distinct fans indexed weights)
numbers_sound q rows fixed matching distinct fans indexed weights h = record {
  weights = h.weights_fit;
  row_counts = h.row_counts;
  fixed_counts = h.fixed_counts;
  matching_counts = h.matching_counts;
  distinct_counts = h.distinct_counts;
  fan_counts = fan_lists rows 0 q.places fans h.fans_fit;
  rows = h.rows_fit;
  fixed = λ place less. let all = h.fixed_counts in h.fixed_fit place (omega arith);
  matching = h.matching_fit;
  distinct = h.distinct_fit;
  fans = λ place column there inside. fan_within rows 0 q.places fans h.fans_fit place column place (omega arith) there
      inside;
  not_wide = h.not_wide;
}
