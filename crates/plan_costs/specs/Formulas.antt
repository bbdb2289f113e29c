-- What plans cost as formulas of the selectivities: a formula for each equation of the cost model.
--
-- A selectivity stands where the equation reads the vector, and a constant where it reads statistics alone.
use Rattle.std.specs.Prelude.{ℕ, ◌≡◌, ◌<◌, ◌+◌, ◌*◌, true, false, if◌then◌else◌, List, [], ◌∷◌, take, slice_get}
use Rattle.std.specs.Prelude.{slice_index}
use Rattle.std.specs.Option.{option_map_or}
use Rattle.row_values.specs.Statements.{Statement, is_parameterised, selectivity_count}
use Rattle.plan_trees.specs.declared.plans.Access.{Access}
use Rattle.plan_trees.specs.declared.plans.Access.TheVariants.{Seq, Range, Full}
use Rattle.plan_trees.specs.declared.plans.StepKind.{StepKind}
use Rattle.plan_trees.specs.declared.plans.StepKind.TheVariants.{Loop, Probe}
use Rattle.plan_trees.specs.PlaceSets.{has, one}
use Rattle.plan_trees.specs.Statistics.{Statistics, selectivity_places}
use Rattle.plan_trees.specs.Trees.{Tree, Base, Join, HashJoin, Sort, TopTree, Rows, SortedGroups, HashGroups}
use Rattle.plan_trees.specs.Trees.{place_entering, places_of}
use Rattle.growth_checker.specs.Expression.{Formula, Constant, Selectivity, Plus, Times, mentions, IsSound, IsUnshared}
use Rattle.cost_model.specs.Cardinalities.{kappa, product_over}
use Rattle.cost_model.specs.Costs.{digits, look_up_cost, edge_fan}
use Rattle.plan_trees.specs.declared.scale.TheConstants.{COST_SCALE}

-- the formula times the selectivities of the set's places; the list has the place of each from this one on
abbrev pub selected : ℕ → ℕ → Formula → List ℕ → Formula
selected set next f [] = f
selected set next f (place ∷ places) = selected set (next + 1)
    (if has set place then Times f (Selectivity next) else f) places

abbrev pub card_formula : Statement → Statistics → ℕ → Formula
card_formula q s set = selected set 0 (Constant (kappa q s set)) (selectivity_places q.preds)

-- Accesses.

-- a descent, and each row that a parameterised predicate finds
abbrev pub found_formula : Statistics → ℕ → ℕ → Formula
found_formula s place next = Plus (Constant (look_up_cost s place 0))
    (Times (Constant s.weights.fetch) (Selectivity next))

abbrev pub range_formula : Statement → Statistics → ℕ → ℕ → Formula
range_formula q s place pred =
    if option_map_or is_parameterised (slice_get q.preds pred) false
    then found_formula s place (selectivity_count (take pred q.preds))
    else Constant (look_up_cost s place (slice_index s.matching pred))

abbrev pub unit_formula : Statement → Statistics → Access → Formula
unit_formula q s (Seq place) = Constant (s.weights.row * slice_index s.rows place)
unit_formula q s (Range place column pred) = range_formula q s place pred
unit_formula q s (Full place column) = Constant (look_up_cost s place (slice_index s.rows place))

-- Steps, hash joins and sorts.

abbrev pub out_formula : Statement → Statistics → ℕ → Formula
out_formula q s set = Times (Constant s.weights.out) (card_formula q s set)

-- what a step does for each row so far: a run of its access, or a look-up
abbrev pub run_formula : Statement → Statistics → StepKind → Formula
run_formula q s (Loop access) = unit_formula q s access
run_formula q s (Probe place edge) = Constant (look_up_cost s place (edge_fan q s place edge))

abbrev pub step_formula : Statement → Statistics → ℕ → StepKind → Formula
step_formula q s set step =
    Plus (Times (card_formula q s set) (run_formula q s step)) (out_formula q s (set + one (place_entering step)))

abbrev pub join_formula : Statement → Statistics → ℕ → ℕ → Formula
join_formula q s left right =
    Plus (Times (Constant s.weights.hash) (Plus (card_formula q s left) (card_formula q s right)))
    (out_formula q s (left + right))

abbrev pub sort_formula : Statement → Statistics → ℕ → Formula
sort_formula q s set = Times (Constant (s.weights.sort * digits (product_over set 0 s.rows))) (card_formula q s set)

-- Plans.

abbrev pub plan_formula : Statement → Statistics → Tree → Formula
plan_formula q s (Base access) = Times (Constant COST_SCALE) (unit_formula q s access)
plan_formula q s (Join outer step) = Plus (plan_formula q s outer) (step_formula q s (places_of outer) step)
plan_formula q s (HashJoin outer inner edge) =
    Plus (Plus (plan_formula q s outer) (plan_formula q s inner)) (join_formula q s (places_of outer) (places_of inner))
plan_formula q s (Sort outer) = Plus (plan_formula q s outer) (sort_formula q s (places_of outer))

abbrev pub grouped_formula : Statement → Statistics → ℕ → Tree → Formula
grouped_formula q s weight plan = Plus (plan_formula q s plan)
    (Times (Constant weight) (card_formula q s (places_of plan)))

abbrev pub top_formula : Statement → Statistics → TopTree → Formula
top_formula q s (Rows plan) = plan_formula q s plan
top_formula q s (SortedGroups plan) = grouped_formula q s s.weights.row plan
top_formula q s (HashGroups plan) = grouped_formula q s s.weights.hash plan

-- an expression that has a polynomial: each of its selectivities is one of so many, and no product shares one
pub record IsCostFormula (count : ℕ) (f : Formula) : Type 0 where
  pub sound : IsSound f
  pub unshared : IsUnshared f
  pub within : (i : ℕ) → mentions f i ≡ true → i < count
