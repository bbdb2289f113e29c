-- A plan's formula is worth its cost, at each vector with a number for each selectivity.
use Rattle.std.proofs.Common.{ℕ, ◌≡◌, ◌≤◌, ◌<◌, ◌+◌, ◌*◌, Bool, true, false, List, [], ◌∷◌, length, map, drop, take}
use Rattle.std.proofs.Common.{slice_get, slice_index, if◌then◌else◌, ap, sym, ◌∙◌, refl, arith, mul_assoc}
use Rattle.std.specs.Option.{option_map_or}
use Rattle.std.proofs.lemmas.List.{drop_more, get_or_default}
use Rattle.row_values.specs.Statements.{Statement, is_parameterised, selectivity_count}
use Rattle.plan_trees.specs.declared.plans.Access.{Access}
use Rattle.plan_trees.specs.declared.plans.Access.TheVariants.{Seq, Range, Full}
use Rattle.plan_trees.specs.declared.plans.StepKind.{StepKind}
use Rattle.plan_trees.specs.declared.plans.StepKind.TheVariants.{Loop, Probe}
use Rattle.plan_trees.specs.PlaceSets.{has, one}
use Rattle.plan_trees.specs.Statistics.{Statistics, selectivity_places}
use Rattle.plan_trees.specs.Trees.{Tree, Base, Join, HashJoin, Sort, TopTree, Rows, SortedGroups, HashGroups, place_of}
use Rattle.plan_trees.specs.Trees.{places_of}
use Rattle.growth_checker.specs.Expression.{Formula, Constant, Selectivity, Times, value_at}
use Rattle.cost_model.specs.Cardinalities.{card_of, kappa, marked_product, product_over}
use Rattle.cost_model.specs.Costs.{digits, look_up_cost, access_unit, edge_fan, step_cost, join_cost, plan_cost}
use Rattle.cost_model.specs.Costs.{top_cost}
use Rattle.cost_model.specs.Laws.{IsVectorOf}
use Rattle.plan_trees.specs.declared.scale.TheConstants.{COST_SCALE}
use Rattle.cost_model.proofs.SoundNumbers.{places_counted}
use Rattle.plan_costs.specs.Formulas.{selected, card_formula, found_formula, unit_formula, step_formula, join_formula}
use Rattle.plan_costs.specs.Formulas.{plan_formula, grouped_formula, top_formula}
use Rattle.plan_costs.proofs.StepParts.{count_before}

both_sums : {a b x y : ℕ} → a ≡ x → b ≡ y → a + b ≡ x + y
both_sums e f = rw (e, f) refl

both_products : {a b x y : ℕ} → a ≡ x → b ≡ y → a * b ≡ x * y
both_products e f = rw (e, f) refl

-- Cardinalities.

one_factor : (b : Bool) (next m : ℕ) (f : Formula) (s : List ℕ) → next < length s
    → value_at (if b then Times f (Selectivity next) else f) s * m ≡ value_at f
    s * ((if b then slice_index s next else 1) * m)
one_factor true next m f s h = rw (get_or_default s next 1 0 h) (mul_assoc (value_at f s) (slice_index s next) m)
one_factor false next m f s h = let e : m ≡ 1 * m = omega arith in ap (λ n. value_at f s * n) e

selected_value : (set next : ℕ) (f : Formula) (places s : List ℕ) → next + length places ≤ length s
    → value_at (selected set next f places) s ≡ value_at f s * marked_product (map (has set) places) (drop next s)
selected_value set next f [] s h = omega arith
selected_value set next f (place ∷ places) s h =
    let here : next < length s = omega arith in
    let split : drop next s ≡ slice_index s next ∷ drop (next + 1) s = drop_more s next 0 here in
    let rest = selected_value set (next + 1) (if has set place then Times f (Selectivity next) else f) places s
    (omega arith) in
    rest ∙ one_factor (has set place) next (marked_product (map (has set) places) (drop (next + 1) s)) f s here
    ∙ ap (λ xs. value_at f s * marked_product (map (has set) (place ∷ places)) xs) (sym split)

pub card_value : (q : Statement) (s : Statistics) (vector : List ℕ) (set : ℕ) → IsVectorOf q vector
    → value_at (card_formula q s set) vector ≡ card_of q s vector set
unfolding card_of
card_value q s vector set h =
    let each = places_counted q.preds in
    selected_value set 0 (Constant (kappa q s set)) (selectivity_places q.preds) vector (omega arith)

-- Accesses.

found_value : (s : Statistics) (place i m : ℕ) (b : Bool) (vector : List ℕ) → (b ≡ true → i < length vector)
    → value_at (if b then found_formula s place i else Constant (look_up_cost s place m)) vector ≡ look_up_cost s place
    (if b then slice_index vector i else m)
found_value s place i m false vector h = refl
found_value s place i m true vector h =
    let e = get_or_default vector i 1 0 (h refl) in
    let f : s.weights.fetch * slice_index vector i ≡ s.weights.fetch * slice_index vector i = refl in
    rw e (omega arith)

unit_value : (q : Statement) (s : Statistics) (vector : List ℕ) (access : Access) → IsVectorOf q vector
    → value_at (unit_formula q s access) vector ≡ access_unit q s vector access
unit_value q s vector (Seq place) h = refl
unit_value q s vector (Range place column pred) h =
    found_value s place (selectivity_count (take pred q.preds)) (slice_index s.matching pred)
    (option_map_or is_parameterised (slice_get q.preds pred) false) vector
    (λ e. let less = count_before q.preds pred e in omega arith)
unit_value q s vector (Full place column) h = refl

-- Steps, hash joins and sorts.

weighed_value : (q : Statement) (s : Statistics) (vector : List ℕ) (weight set : ℕ) → IsVectorOf q vector
    → value_at (Times (Constant weight) (card_formula q s set)) vector ≡ weight * card_of q s vector set
weighed_value q s vector weight set h = ap (λ n. weight * n) (card_value q s vector set h)

step_value : (q : Statement) (s : Statistics) (vector : List ℕ) (set : ℕ) (step : StepKind) → IsVectorOf q vector
    → value_at (step_formula q s set step) vector ≡ step_cost q s vector set step
step_value q s vector set (Loop access) h =
    both_sums (both_products (card_value q s vector set h) (unit_value q s vector access h))
    (weighed_value q s vector s.weights.out (set + one (place_of access)) h)
step_value q s vector set (Probe place edge) h =
    both_sums (ap (λ n. n * look_up_cost s place (edge_fan q s place edge)) (card_value q s vector set h))
    (weighed_value q s vector s.weights.out (set + one place) h)

join_value : (q : Statement) (s : Statistics) (vector : List ℕ) (left right : ℕ) → IsVectorOf q vector
    → value_at (join_formula q s left right) vector ≡ join_cost q s vector left right
join_value q s vector left right h =
    both_sums (ap (λ n. s.weights.hash * n) (both_sums (card_value q s vector left h) (card_value q s vector right h)))
    (weighed_value q s vector s.weights.out (left + right) h)

-- Plans.

plan_value : (q : Statement) (s : Statistics) (vector : List ℕ) (plan : Tree) → IsVectorOf q vector
    → value_at (plan_formula q s plan) vector ≡ plan_cost q s vector plan
plan_value q s vector (Base access) h = ap (λ n. COST_SCALE * n) (unit_value q s vector access h)
plan_value q s vector (Join outer step) h = both_sums (plan_value q s vector outer h)
    (step_value q s vector (places_of outer) step h)
plan_value q s vector (HashJoin outer inner edge) h =
    both_sums (both_sums (plan_value q s vector outer h) (plan_value q s vector inner h))
    (join_value q s vector (places_of outer) (places_of inner) h)
plan_value q s vector (Sort outer) h =
    both_sums (plan_value q s vector outer h)
    (weighed_value q s vector (s.weights.sort * digits (product_over (places_of outer) 0 s.rows)) (places_of outer) h)

grouped_value : (q : Statement) (s : Statistics) (vector : List ℕ) (weight : ℕ) (plan : Tree) → IsVectorOf q vector
    → value_at (grouped_formula q s weight plan) vector ≡ plan_cost q s vector plan + weight * card_of q s
    vector (places_of plan)
grouped_value q s vector weight plan h = both_sums (plan_value q s vector plan h)
    (weighed_value q s vector weight (places_of plan) h)

pub top_value : (q : Statement) (s : Statistics) (vector : List ℕ) (top : TopTree) → IsVectorOf q vector
    → value_at (top_formula q s top) vector ≡ top_cost q s vector top
top_value q s vector (Rows plan) h = plan_value q s vector plan h
top_value q s vector (SortedGroups plan) h = grouped_value q s vector s.weights.row plan h
top_value q s vector (HashGroups plan) h = grouped_value q s vector s.weights.hash plan h
