-- What sound statistics and a sound vector say of their numbers, list by list.
use Rattle.std.proofs.Common.{ℕ, zero, suc, ◌≡◌, ◌≤◌, ◌<◌, ◌+◌, ◌^◌, ◌==◌, ◌&&◌, ◌⊎◌, inl, inr, Bool, true, false, List}
use Rattle.std.proofs.Common.{[], ◌∷◌, length, take, slice_get, slice_index, slice_index_or, All, Option, Some, None}
use Rattle.std.proofs.Common.{IsSome, if◌then◌else◌, ap, sym, ◌∙◌, refl, subst, arith}
use Rattle.std.specs.Option.{option_map, option_map_or}
use Rattle.std.proofs.lemmas.Bool.{cases_lt}
use Rattle.std.proofs.lemmas.List.{get_or_past}
use Rattle.std.proofs.lemmas.Option.{slice_get-get_or}
use Rattle.row_values.proofs.Fitting.{test_there}
use Rattle.row_values.specs.Statements.{Statement, IsSoundQuery, IsPred, kind_at, is_parameterised, selectivity_count}
use Rattle.row_values.specs.declared.statement.ColRef.{ColRef}
use Rattle.row_values.specs.declared.statement.Place.{Place}
use Rattle.row_values.specs.declared.statement.Pred.{Pred}
use Rattle.row_values.specs.declared.values.Kind.{Kind}
use Rattle.plan_trees.specs.PlanSpace.{column_of}
use Rattle.plan_trees.specs.Statistics.{Statistics, IsWithin, AreWeights, IsSoundStats, IsSoundVector, fan_at}
use Rattle.plan_trees.specs.Statistics.{selectivities_on, selectivity_places, weighted_size}
use Rattle.plan_trees.proofs.SoundParts.{column_in_range}
use Rattle.cost_model.specs.Costs.{rows_met}
use Rattle.cost_model.proofs.Growth.{selectivity_of}
use Rattle.cost_model.proofs.Products.{Ones, IsVector, IsPart, count_on, widths, product_all}

-- Facts of each element, as facts of a list.

ones_from : (xs : List ℕ) → ((k : ℕ) → k < length xs → 1 ≤ slice_index xs k) → Ones xs
unfolding Ones
ones_from [] h = tt
ones_from (x ∷ xs) h = (h 0 (omega arith), ones_from xs (λ k less. h (suc k) (omega arith)))

part_from : (fs ns : List ℕ) → length fs ≡ length ns
    → ((k : ℕ) → k < length ns → IsWithin (slice_index ns k) (slice_index fs k)) → IsPart fs ns
part_from [] [] e h = tt
part_from [] (n ∷ ns) e h = absurd (omega arith)
part_from (f ∷ fs) [] e h = absurd (omega arith)
part_from (f ∷ fs) (n ∷ ns) e h =
    let first : IsWithin n f = h 0 (omega arith) in
    (first.low, first.high, part_from fs ns (omega arith) (λ k less. h (suc k) (omega arith)))

vector_from : (rows on xs : List ℕ) → length xs ≡ length on → ((i : ℕ) → i < length on → slice_index on i < length rows)
    → ((i : ℕ) → i < length on → IsWithin (slice_index rows (slice_index on i)) (slice_index xs i))
    → IsVector rows on xs
vector_from rows [] [] e there h = tt
vector_from rows [] (x ∷ xs) e there h = absurd (omega arith)
vector_from rows (t ∷ on) [] e there h = absurd (omega arith)
vector_from rows (t ∷ on) (x ∷ xs) e there h =
    let first : IsWithin (slice_index rows t) x = h 0 (omega arith) in (
      there 0 (omega arith),
      first.low,
      first.high,
      vector_from rows on xs (omega arith)
          (λ i less. there (suc i) (omega arith)) (λ i less. h (suc i) (omega arith)),
    )

-- The places of the parameterised predicates.

one_each_by : (b : Bool) (t n : ℕ) (on : List ℕ) → length on ≡ n → length (if b then t ∷ on else on)
    ≡ (if b then 1 else 0) + n
one_each_by true t n on e = omega arith
one_each_by false t n on e = omega arith

pub places_counted : (preds : List Pred) → length (selectivity_places preds) ≡ selectivity_count preds
places_counted [] = refl
places_counted (pred ∷ preds) =
    one_each_by (is_parameterised pred) pred.at.place (selectivity_count preds) (selectivity_places preds)
    (places_counted preds)

there_by : (b : Bool) (t i limit : ℕ) (on : List ℕ) → t < limit → ((i : ℕ) → i < length on → slice_index on i < limit)
    → i < length (if b then t ∷ on else on) → slice_index (if b then t ∷ on else on) i < limit
there_by false t i limit on first rest less = rest i less
there_by true t zero limit on first rest less = first
there_by true t (suc i) limit on first rest less = rest i (omega arith)

pub places_there : (places : List Place) (preds : List Pred) → All (IsPred places) preds → (i : ℕ)
    → i < length (selectivity_places preds) → slice_index (selectivity_places preds) i < length places
places_there places [] h i less = absurd (omega arith)
places_there places (pred ∷ preds) h i less =
    let first : IsPred places pred = h 0 pred (omega arith) in
    there_by (is_parameterised pred) pred.at.place i (length places) (selectivity_places preds)
    (column_in_range places pred.at (test_there (kind_at places pred.at) pred.test first))
    (λ k inside. places_there places preds (λ n d small. h (suc n) d (omega arith)) k inside) less

-- Wide statements, by counting on either list.

count_by : (c : Bool) (n : ℕ) → (if c then suc n else n) ≡ (if c then 1 else 0) + n
count_by true n = omega arith
count_by false n = omega arith

count_more_by : (t u n m : ℕ) (b : Bool) (on : List ℕ) → count_on t on ≡ m → n ≡ (if b && u == t then 1 else 0) + m
    → count_on t (if b then u ∷ on else on) ≡ n
count_more_by t u n m true on e f = count_by (u == t) (count_on t on) ∙ ap (λ k. (if u == t then 1 else 0) + k) e
    ∙ sym f
count_more_by t u n m false on e f = e ∙ omega arith

count_same : (t : ℕ) (preds : List Pred) → count_on t (selectivity_places preds) ≡ selectivities_on t preds
count_same t [] = refl
count_same t (pred ∷ preds) = count_more_by t pred.at.place _ (selectivities_on t preds) (is_parameterised pred)
    (selectivity_places preds) (count_same t preds) refl

widths_size : (preds : List Pred) (t : ℕ) (rows : List ℕ) → product_all (widths (selectivity_places preds) t rows)
    ≡ weighted_size preds t rows
widths_size preds t [] = refl
widths_size preds t (n ∷ rows) = rw (count_same t preds, widths_size preds (t + 1) rows) refl

-- The rows of a range, and of a fan.

fixed_rows : (q : Statement) (s : Statistics) (j : ℕ) (at : ColRef) (o : Option Pred) → IsSoundStats q s
    → slice_get q.preds j ≡ o → option_map (λ p. p.at) o ≡ Some at
    → IsWithin (slice_index s.rows at.place) (slice_index s.matching j)
fixed_rows q s j at None k e on = cc
fixed_rows q s j at (Some pred) k e on =
    let same : pred.at ≡ at = cc in
    subst (λ (a : ColRef). IsWithin (slice_index s.rows a.place) (slice_index s.matching j)) same (k.matching j pred e)

chosen_rows : (q : Statement) (s : Statistics) (vector : List ℕ) (j : ℕ) (at : ColRef) (b : Bool) → IsSoundStats q s
    → IsSoundVector q s vector → option_map (λ p. p.at) (slice_get q.preds j) ≡ Some at
    → option_map_or is_parameterised (slice_get q.preds j) false ≡ b
    → IsWithin (slice_index s.rows at.place) (if b then slice_index vector (selectivity_count (take j q.preds))
    else slice_index s.matching j)
chosen_rows q s vector j at false k v on e = fixed_rows q s j at (slice_get q.preds j) k refl on
chosen_rows q s vector j at true k v on e =
    let i = selectivity_of q.preds j at on e in
    v.within (selectivity_count (take j q.preds)) at.place (slice_get-get_or (selectivity_places q.preds) _ 0 i.there
    ∙ ap Some i.placed)

fan_by : (q : Statement) (s : Statistics) (place column : ℕ) → IsSoundStats q s → place < length q.places
    → (column < length (slice_index_or s.fans place [])) ⊎ (length (slice_index_or s.fans place []) ≤ column)
    → fan_at s place column ≤ slice_index s.rows place
fan_by q s place column k there (inl inside) = (k.fans place column there inside).high
fan_by q s place column k there (inr past) =
    let none : fan_at s place column ≡ 0 = get_or_past (slice_index_or s.fans place []) column 0 past in
    omega arith

-- All of it.

pub record AreSized (q : Statement) (s : Statistics) (vector : List ℕ) : Type 0 where
  pub few : length q.places ≤ 5
  pub row_counts : length s.rows ≡ length q.places
  pub rows : (place : ℕ) → place < length q.places → 1 ≤ slice_index s.rows place
  pub part : IsPart s.fixed s.rows
  pub narrow : product_all (widths (selectivity_places q.preds) 0 s.rows) ≤ 2 ^ 63
  pub distinct : Ones s.distinct
  pub numbers : IsVector s.rows (selectivity_places q.preds) vector
  pub found : (place column pred : ℕ) → option_map (λ p. p.at) (slice_get q.preds pred) ≡ Some (column_of place column)
      → IsWithin (slice_index s.rows place) (rows_met q s vector pred)
  pub fan : (place column : ℕ) → place < length q.places → fan_at s place column ≤ slice_index s.rows place
  pub weights : AreWeights s.weights

pub are_sized : (q : Statement) (s : Statistics) (vector : List ℕ) → IsSoundQuery q → IsSoundStats q s
    → IsSoundVector q s vector → AreSized q s vector
are_sized q s vector h k v =
    let counts = k.row_counts in
    let fixed_counts = k.fixed_counts in
    let each = places_counted q.preds in
    let one_each = v.one_each in
    let on = selectivity_places q.preds in
    record {
      few = h.few_places;
      row_counts = counts;
      rows = λ place less. (k.rows place 0 (omega arith)).low;
      part = part_from s.fixed s.rows (omega arith) (λ place less. k.fixed place (omega arith));
      narrow = let size = widths_size q.preds 0 s.rows in let narrow = k.not_wide in omega arith;
      distinct = ones_from s.distinct (λ e less. k.distinct e 0 less);
      numbers = vector_from s.rows on vector (omega arith)
          (λ i less. let there = places_there q.places q.preds h.preds i less in omega arith)
          (λ i less. v.within i (slice_index on i) (slice_get-get_or on i 0 less));
      found = λ place column pred on. chosen_rows q s vector pred (column_of place column)
          (option_map_or is_parameterised (slice_get q.preds pred) false) k v on refl;
      fan = λ place column there. fan_by q s place column k there (cases_lt column _);
      weights = k.weights;
    }

-- For code that reads them one by one.

pub vector_some : (q : Statement) (s : Statistics) (vector : List ℕ) → IsSoundVector q s vector → (k : ℕ)
    → k < length vector → 1 ≤ slice_index vector k
vector_some q s vector v k less =
    let one_each = v.one_each in
    let each = places_counted q.preds in
    (v.within k (slice_index (selectivity_places q.preds) k) (slice_get-get_or (selectivity_places q.preds) k 0
    (omega arith))).low

pub preds_there : (q : Statement) (s : Statistics) → IsSoundQuery q → IsSoundStats q s
    → All (λ pred. pred.at.place < length s.rows) q.preds
preds_there q s h stats k d less =
    let there = column_in_range q.places (slice_index_or q.preds k d).at
    (test_there (kind_at q.places (slice_index_or q.preds k d).at) (slice_index_or q.preds k d).test
    (h.preds k d less)) in
    let counts = stats.row_counts in
    omega arith
