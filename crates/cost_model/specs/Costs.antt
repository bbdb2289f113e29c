-- What plans cost, on the cost scale: an equation for each form of plan.
use Rattle.std.specs.Prelude.{ℕ, zero, suc, ◌+◌, ◌*◌, ◌/◌, ◌==◌, false, if◌then◌else◌, List, take, slice_get}
use Rattle.std.specs.Prelude.{slice_index}
use Rattle.std.specs.Option.{option_map_or}
use Rattle.row_values.specs.Statements.{Statement, is_parameterised, selectivity_count}
use Rattle.plan_trees.specs.declared.plans.Access.{Access}
use Rattle.plan_trees.specs.declared.plans.Access.TheVariants.{Seq, Range, Full}
use Rattle.plan_trees.specs.declared.plans.StepKind.{StepKind}
use Rattle.plan_trees.specs.declared.plans.StepKind.TheVariants.{Loop, Probe}
use Rattle.plan_trees.specs.PlaceSets.{one}
use Rattle.plan_trees.specs.PlanSpace.{column_in}
use Rattle.plan_trees.specs.Statistics.{Statistics, fan_at}
use Rattle.plan_trees.specs.Trees.{Tree, Base, Join, HashJoin, Sort, TopTree, Rows, SortedGroups, HashGroups, place_of}
use Rattle.plan_trees.specs.Trees.{places_of}
use Rattle.cost_model.specs.Cardinalities.{card_of, product_over}
use Rattle.plan_trees.specs.declared.scale.TheConstants.{COST_SCALE}

-- how many binary digits a number has, up to a most
unfoldable pub digits_within : ℕ → ℕ → ℕ
digits_within zero number = 0
digits_within (suc most) number = if number == 0 then 0 else 1 + digits_within most (number / 2)

-- how many binary digits a number below 2 ^ 64 has: the steps that halve it away
unfoldable pub digits : ℕ → ℕ
digits number = digits_within 64 number

-- Accesses, each run once.

-- the rows that meet a predicate: as the vector says where it is parameterised, else its fixed count
abbrev pub rows_met : Statement → Statistics → List ℕ → ℕ → ℕ
rows_met q s vector pred =
    if option_map_or is_parameterised (slice_get q.preds pred) false
    then slice_index vector (selectivity_count (take pred q.preds))
    else slice_index s.matching pred

-- one descent in an index of the place, and the rows that it finds
abbrev pub look_up_cost : Statistics → ℕ → ℕ → ℕ
look_up_cost s place found = s.weights.probe * digits (slice_index s.rows place) + s.weights.fetch * found

abbrev pub access_unit : Statement → Statistics → List ℕ → Access → ℕ
access_unit q s vector (Seq place) = s.weights.row * slice_index s.rows place
access_unit q s vector (Range place column pred) = look_up_cost s place (rows_met q s vector pred)
access_unit q s vector (Full place column) = look_up_cost s place (slice_index s.rows place)

-- Steps, over a plan of this set of places.

-- the rows for each value of the place's column in the edge
abbrev pub edge_fan : Statement → Statistics → ℕ → ℕ → ℕ
edge_fan q s place edge = option_map_or (λ e. fan_at s place (column_in place e)) (slice_get q.edges edge) 0

-- what a step adds: its work for the rows of the outer side, and the rows that come out
abbrev pub step_cost : Statement → Statistics → List ℕ → ℕ → StepKind → ℕ
step_cost q s vector set (Loop access) =
    card_of q s vector set * access_unit q s vector access
    + s.weights.out * card_of q s vector (set + one (place_of access))
step_cost q s vector set (Probe place edge) =
    card_of q s vector set * look_up_cost s place (edge_fan q s place edge)
    + s.weights.out * card_of q s vector (set + one place)

-- what a hash join adds to its two sides, of these sets of places: a table over both, and the rows that come out
abbrev pub join_cost : Statement → Statistics → List ℕ → ℕ → ℕ → ℕ
join_cost q s vector left right =
    s.weights.hash * (card_of q s vector left + card_of q s vector right)
    + s.weights.out * card_of q s vector (left + right)

-- what a sort adds: as many comparisons for a row as the product of the set's tables has digits
abbrev pub sort_cost : Statement → Statistics → List ℕ → ℕ → ℕ
sort_cost q s vector set = s.weights.sort * digits (product_over set 0 s.rows) * card_of q s vector set

-- Plans.

abbrev pub plan_cost : Statement → Statistics → List ℕ → Tree → ℕ
plan_cost q s vector (Base access) = COST_SCALE * access_unit q s vector access
plan_cost q s vector (Join outer step) = plan_cost q s vector outer + step_cost q s vector (places_of outer) step
plan_cost q s vector (HashJoin outer inner edge) =
    plan_cost q s vector outer + plan_cost q s vector inner + join_cost q s vector (places_of outer) (places_of inner)
plan_cost q s vector (Sort outer) = plan_cost q s vector outer + sort_cost q s vector (places_of outer)

abbrev pub top_cost : Statement → Statistics → List ℕ → TopTree → ℕ
top_cost q s vector (Rows plan) = plan_cost q s vector plan
top_cost q s vector (SortedGroups plan) =
    plan_cost q s vector plan + s.weights.row * card_of q s vector (places_of plan)
top_cost q s vector (HashGroups plan) = plan_cost q s vector plan + s.weights.hash * card_of q s vector (places_of plan)
