-- What sound numbers say of the parts of a step: they are there, and none is past 124 bits.
use Rattle.std.proofs.Common.{ℕ, ◌≡◌, ◌<◌, ◌+◌, ◌*◌, ◌^◌, ◌==◌, ◌&&◌, Bool, true, false, IsTrue, List, [], length, take}
use Rattle.std.proofs.Common.{slice_get, slice_index, slice_index_or, Option, Some, None, IsSome, IsSomeAnd}
use Rattle.std.proofs.Common.{option_and_then, if◌then◌else◌, ap, sym, ◌∙◌, refl, subst, arith, true≢false}
use Rattle.std.proofs.Common.{lt_of_lt_of_le}
use Rattle.std.specs.Option.{option_map, option_map_or}
use Rattle.std.proofs.Math.Nat.{pow-le-pow_right}
use Rattle.std.proofs.lemmas.Bool.Decides.{nat_tests}
use Rattle.std.proofs.lemmas.Option.{slice_get-map, slice_get_within, slice_get-get_or}
use Rattle.row_values.specs.Statements.{Statement, IsSoundQuery, IsColumn, IsEdge, is_parameterised, selectivity_count}
use Rattle.row_values.specs.declared.columns.Column.{Column}
use Rattle.row_values.specs.declared.statement.Edge.{Edge}
use Rattle.row_values.specs.declared.statement.Place.{Place}
use Rattle.row_values.specs.declared.statement.Pred.{Pred}
use Rattle.plan_trees.specs.declared.plans.StepKind.{StepKind}
use Rattle.plan_trees.specs.declared.plans.StepKind.TheVariants.{Loop, Probe}
use Rattle.plan_trees.specs.Indexes.{has_index}
use Rattle.plan_trees.specs.PlaceSets.{has, one}
use Rattle.plan_trees.specs.PlanSpace.{IsValidPlan, IsValidStep, column_in, column_of, joins_to}
use Rattle.plan_trees.specs.Statistics.{Statistics, IsSoundStats, IsSoundVector}
use Rattle.plan_trees.specs.Trees.{Tree, place_entering, places_of}
use Rattle.cost_model.specs.Cardinalities.{card_of, product_over}
use Rattle.cost_model.specs.Costs.{digits, join_cost, sort_cost, step_cost}
use Rattle.cost_model.proofs.CostBounds.{card_below_limit, join_below_limit, sort_below_limit, step_below_limit}
use Rattle.cost_model.proofs.Growth.{selectivity_of}
use Rattle.cost_model.proofs.Sets.{set_of_plan}
use Rattle.cost_model.proofs.SoundNumbers.{are_sized}
use Rattle.plan_costs.specs.Cards.{AreCards}
use Rattle.plan_costs.specs.Units.{unit_of_step}

-- The column of a fan.

-- a column that is there has a fan
fans_wide : (fans : List (List ℕ)) (place width : ℕ) (o : Option (List ℕ)) → slice_get fans place ≡ o
    → option_map length o ≡ Some width → length (slice_index_or fans place []) ≡ width
fans_wide fans place width None e h = cc
fans_wide fans place width (Some numbers) e h =
    let here = slice_get-get_or fans place [] (slice_get_within fans place numbers e) in
    cc

column_within : (columns : List Column) (column : ℕ) (o : Option Column) → slice_get columns column ≡ o
    → IsSome (option_map (λ c. c.kind) o) → column < length columns
column_within columns column None e h = cc
column_within columns column (Some c) e h = slice_get_within columns column c e

fan_there_by : (q : Statement) (s : Statistics) (place column : ℕ) (o : Option Place) → IsSoundStats q s
    → slice_get q.places place ≡ o
    → IsSome (option_and_then (λ p. option_map (λ c. c.kind) (slice_get p.schema column)) o)
    → column < length (slice_index_or s.fans place [])
fan_there_by q s place column None k e h = cc
fan_there_by q s place column (Some p) k e h =
    let less = column_within p.schema column (slice_get p.schema column) refl h in
    let wide : option_map length (slice_get s.fans place) ≡ Some (length p.schema) =
    sym (slice_get-map length s.fans place) ∙ ap (λ ns. slice_get ns place) k.fan_counts
    ∙ slice_get-map (λ (p : Place). length p.schema) q.places place
    ∙ ap (option_map (λ (p : Place). length p.schema)) e in
    let same = fans_wide s.fans place (length p.schema) (slice_get s.fans place) refl wide in
    omega arith

fan_there : (q : Statement) (s : Statistics) (place column : ℕ) → IsSoundStats q s
    → IsColumn q.places (column_of place column) → column < length (slice_index_or s.fans place [])
fan_there q s place column k h = fan_there_by q s place column (slice_get q.places place) k refl h

-- the end of the edge that is on this place
end_there_by : (b : Bool) (q : Statement) (set place : ℕ) (e : Edge) → IsEdge q.places e
    → IsTrue (joins_to set place e) → (e.right.place == place) ≡ b
    → IsColumn q.places (column_of place (if b then e.right.column else e.left.column))
end_there_by true q set place e edge joined h =
    let same : e.right.place ≡ place = grind (arith, nat_tests) in
    let right : IsColumn q.places e.right = subst (λ k. IsSome k) edge.one_kind edge.there in
    subst (λ p. IsColumn q.places (column_of p e.right.column)) same right
end_there_by false q set place e edge joined h =
    let left : IsTrue (e.left.place == place && has set e.right.place) = cc in
    let same : e.left.place ≡ place = grind (arith, nat_tests) in
    subst (λ p. IsColumn q.places (column_of p e.left.column)) same edge.there

pub fan_column : (q : Statement) (s : Statistics) (set place edge : ℕ) → IsSoundQuery q → IsSoundStats q s
    → IsValidStep q s.indexed set (Probe place edge) → (e : Edge) → slice_get q.edges edge ≡ Some e
    → column_in place e < length (slice_index_or s.fans place [])
fan_column q s set place edge h k valid e there =
    let less = slice_get_within q.edges edge e there in
    let found = slice_get-get_or q.edges edge e less in
    let same : slice_index_or q.edges edge e ≡ e = cc in
    let sound : IsEdge q.places e = subst (λ e. IsEdge q.places e) same (h.edges edge e less) in
    let joined =
    subst (λ o. IsSomeAnd o
    (λ e. IsTrue (joins_to set place e) × IsTrue (has_index s.indexed place (column_in place e)))) there valid.2 in
    fan_there q s place (column_in place e) k (end_there_by (e.right.place == place) q set place e sound joined.0 refl)

-- Steps, hash joins and sorts by their parts.

pub step_by_parts : (q : Statement) (s : Statistics) (vector : List ℕ) (set : ℕ) (step : StepKind)
    (unit before after : ℕ)
    → unit ≡ unit_of_step q s vector step → before ≡ card_of q s vector set
    → after ≡ card_of q s vector (set + one (place_entering step))
    → before * unit + s.weights.out * after ≡ step_cost q s vector set step
step_by_parts q s vector set (Loop access) unit before after a b c = rw (a, b, c) refl
step_by_parts q s vector set (Probe place edge) unit before after a b c = rw (a, b, c) refl

pub step_parts_fit : (q : Statement) (s : Statistics) (vector : List ℕ) (set : ℕ) (step : StepKind)
    (unit before after : ℕ)
    → IsSoundQuery q → IsSoundStats q s → IsSoundVector q s vector → IsValidStep q s.indexed set step
    → unit ≡ unit_of_step q s vector step → before ≡ card_of q s vector set
    → after ≡ card_of q s vector (set + one (place_entering step))
    → before * unit + s.weights.out * after < 2 ^ 128
step_parts_fit q s vector set step unit before after h k v valid a b c =
    let few = step_below_limit q s vector set step (are_sized q s vector h k v) valid in
    let e = step_by_parts q s vector set step unit before after a b c in
    omega arith

pub join_by_parts : (q : Statement) (s : Statistics) (vector : List ℕ) (left right first second after : ℕ)
    → first ≡ card_of q s vector left → second ≡ card_of q s vector right → after ≡ card_of q s vector (left + right)
    → s.weights.hash * (first + second) + s.weights.out * after ≡ join_cost q s vector left right
join_by_parts q s vector left right first second after a b c = rw (a, b, c) refl

pub join_parts_fit : (q : Statement) (s : Statistics) (vector : List ℕ) (left right first second after : ℕ)
    → IsSoundQuery q → IsSoundStats q s → IsSoundVector q s vector
    → first ≡ card_of q s vector left → second ≡ card_of q s vector right → after ≡ card_of q s vector (left + right)
    → s.weights.hash * (first + second) + s.weights.out * after < 2 ^ 128
join_parts_fit q s vector left right first second after h k v a b c =
    let few = join_below_limit q s vector left right (are_sized q s vector h k v) in
    let e = join_by_parts q s vector left right first second after a b c in
    omega arith

pub sides_fit : (q : Statement) (s : Statistics) (vector : List ℕ) (left right first second : ℕ)
    → IsSoundQuery q → IsSoundStats q s → IsSoundVector q s vector
    → first ≡ card_of q s vector left → second ≡ card_of q s vector right → first + second < 2 ^ 128
sides_fit q s vector left right first second h k v a b =
    let few = card_below_limit q s vector left (are_sized q s vector h k v) in
    let less = card_below_limit q s vector right (are_sized q s vector h k v) in
    omega arith

pub sort_by_parts : (q : Statement) (s : Statistics) (vector : List ℕ) (set card cost : ℕ)
    → card ≡ card_of q s vector set → cost ≡ s.weights.sort * digits (product_over set 0 s.rows) * card
    → cost ≡ sort_cost q s vector set
sort_by_parts q s vector set card cost e f = f ∙ ap (λ n. s.weights.sort * digits (product_over set 0 s.rows) * n) e

pub sort_parts_fit : (q : Statement) (s : Statistics) (vector : List ℕ) (set card : ℕ)
    → IsSoundQuery q → IsSoundStats q s → IsSoundVector q s vector
    → card ≡ card_of q s vector set → s.weights.sort * digits (product_over set 0 s.rows) * card < 2 ^ 128
sort_parts_fit q s vector set card h k v a =
    let few = sort_below_limit q s vector set (are_sized q s vector h k v) in
    let same : s.weights.sort * digits (product_over set 0 s.rows) * card < 2 ^ 124 = rw a few in
    omega arith

-- The place that enters.

pub small_set : (q : Statement) (set : ℕ) → IsSoundQuery q → set < 2 ^ length q.places → set < 32
small_set q set h there = lt_of_lt_of_le there (pow-le-pow_right (omega arith) h.few_places)

pub plan_small : (q : Statement) (indexed : List ℕ) (plan : Tree) → IsSoundQuery q → IsValidPlan q indexed plan
    → places_of plan < 32
plan_small q indexed plan h valid = small_set q (places_of plan) h (set_of_plan q indexed plan valid).there

-- Selectivities.

count_before_by : (preds : List Pred) (j : ℕ) (o : Option Pred) → slice_get preds j ≡ o
    → option_map_or is_parameterised o false ≡ true → selectivity_count (take j preds) < selectivity_count preds
count_before_by preds j None e h = absurd (true≢false (sym h))
count_before_by preds j (Some pred) e h =
    (selectivity_of preds j pred.at (ap (option_map (λ p. p.at)) e)
    (ap (λ o. option_map_or is_parameterised o false) e ∙ h)).counted

-- before a parameterised predicate there are fewer of them than in all
pub count_before : (preds : List Pred) (j : ℕ) → option_map_or is_parameterised (slice_get preds j) false ≡ true
    → selectivity_count (take j preds) < selectivity_count preds
count_before preds j h = count_before_by preds j (slice_get preds j) refl h

-- Cardinalities that are read off.

pub card_there : (q : Statement) (s : Statistics) (vector cards : List ℕ) (set : ℕ) → AreCards q s vector cards
    → set < 2 ^ length q.places → set < length cards
card_there q s vector cards set h less = let all = h.one_each in omega arith

pub card_read : (q : Statement) (s : Statistics) (vector cards : List ℕ) (set read card : ℕ)
    → AreCards q s vector cards → set < 2 ^ length q.places
    → read ≡ set → card ≡ slice_index cards read → card ≡ card_of q s vector set
card_read q s vector cards set read card h less e f = f ∙ ap (λ k. slice_index cards k) e ∙ h.value set less
