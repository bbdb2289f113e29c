-- Valid plans of statements whose names are of one line are spelled on one line.
use Rattle.std.proofs.Common.{ℕ, ◌≡◌, List, ◌++◌, codes, true, refl, arith}
use Rattle.row_values.specs.Statements.{Statement}
use Rattle.row_values.specs.declared.statement.Place.{Place}
use Rattle.plan_trees.specs.Indexes.{has_index}
use Rattle.plan_trees.specs.PlanSpace.{IsValidAccess, IsValidPlan, IsValidStep, IsValidTop}
use Rattle.plan_trees.specs.Spelling.{access_text, alias_of, column_text, columns_of, name_of, number_text, place_text}
use Rattle.plan_trees.specs.Spelling.{plan_text, step_name, step_text, top_text}
use Rattle.plan_trees.specs.Trees.{Base, HashGroups, HashJoin, Join, Rows, Sort, SortedGroups, TopTree, Tree, places_of}
use Rattle.plan_trees.specs.declared.plans.Access.{Access}
use Rattle.plan_trees.specs.declared.plans.Access.TheVariants.{Full, Range, Seq}
use Rattle.plan_trees.specs.declared.plans.StepKind.{StepKind}
use Rattle.plan_trees.specs.declared.plans.StepKind.TheVariants.{Loop, Probe}
use Rattle.reported_items.specs.Reported.{Stays, is_one_line}
use Rattle.reported_items.proofs.LineNames.{begin, canonical_line, more}
use Rattle.reported_items.proofs.Pieces.{decimal_one_line, end_stays}

-- the names that plans with these indexes are spelled by are of one line
pub record ArePlanNames (places : List Place) (indexed : List ℕ) : Type 0 where
  pub alias : (place : ℕ) → is_one_line (alias_of places place) ≡ true
  pub column : (place column : ℕ) → has_index indexed place column ≡ true
      → is_one_line (name_of (columns_of places place) column) ≡ true

place_line : (places : List Place) (indexed : List ℕ) (place : ℕ) → ArePlanNames places indexed
    → is_one_line (place_text places place) ≡ true
place_line places indexed place names = canonical_line (alias_of places place) (names.alias place)

column_line : (places : List Place) (indexed : List ℕ) (place column : ℕ) → ArePlanNames places indexed
    → has_index indexed place column ≡ true → is_one_line (column_text places place column) ≡ true
column_line places indexed place column names h =
    canonical_line (name_of (columns_of places place) column) (names.column place column h)

number_line : (n : ℕ) → is_one_line (number_text n) ≡ true
number_line n = decimal_one_line _

access_line : (q : Statement) (indexed : List ℕ) (access : Access) → ArePlanNames q.places indexed
    → IsValidAccess q indexed access → is_one_line (access_text q.places access) ≡ true
access_line q indexed (Seq place) names valid =
    (more (begin (place_text q.places place) (place_line q.places indexed place names)) (codes ")") refl).one
access_line q indexed (Range place column pred) names valid =
    (more (more (more (more (more (begin (place_text q.places place) (place_line q.places indexed place names))
    (codes ".") refl) (column_text q.places place column)
    (column_line q.places indexed place column names valid.1)) (codes ",") refl) (number_text pred) (number_line pred))
    (codes ")") refl).one
access_line q indexed (Full place column) names valid =
    (more (more (more (begin (place_text q.places place) (place_line q.places indexed place names))
    (codes ".") refl) (column_text q.places place column)
    (column_line q.places indexed place column names valid.1)) (codes ")") refl).one

name_line : (step : StepKind) → is_one_line (step_name step) ≡ true
name_line (Loop access) = refl
name_line (Probe place edge) = refl

step_line : (q : Statement) (indexed : List ℕ) (taken : ℕ) (step : StepKind) → ArePlanNames q.places indexed
    → IsValidStep q indexed taken step → is_one_line (step_text q.places step) ≡ true
step_line q indexed taken (Loop access) names valid =
    (more (begin (access_text q.places access) (access_line q indexed access names valid.0)) (codes ")") refl).one
step_line q indexed taken (Probe place edge) names valid =
    (more (more (more (begin (place_text q.places place) (place_line q.places indexed place names))
    (codes ",") refl) (number_text edge) (number_line edge)) (codes ")") refl).one

plan_line : (q : Statement) (indexed : List ℕ) (plan : Tree) → ArePlanNames q.places indexed
    → IsValidPlan q indexed plan → is_one_line (plan_text q.places plan) ≡ true
plan_line q indexed (Base access) names valid = access_line q indexed access names valid
plan_line q indexed (Join outer step) names valid =
    (more (more (begin (step_name step) (name_line step)) (plan_text q.places outer)
    (plan_line q indexed outer names valid.0)) (step_text q.places step)
    (step_line q indexed (places_of outer) step names valid.1)).one
plan_line q indexed (HashJoin outer inner edge) names valid =
    (more (more (more (more (more (begin (plan_text q.places outer) (plan_line q indexed outer names valid.0))
    (codes ",") refl) (plan_text q.places inner) (plan_line q indexed inner names valid.1)) (codes ",") refl)
    (number_text edge) (number_line edge)) (codes ")") refl).one
plan_line q indexed (Sort outer) names valid =
    (more (begin (plan_text q.places outer) (plan_line q indexed outer names valid.0)) (codes ")") refl).one

-- a valid plan is spelled on one line
pub top_line : (q : Statement) (indexed : List ℕ) (top : TopTree) → ArePlanNames q.places indexed
    → IsValidTop q indexed top → is_one_line (top_text q.places top) ≡ true
top_line q indexed (Rows plan) names valid =
    (more (begin (plan_text q.places plan) (plan_line q indexed plan names valid.plan)) (codes ")") refl).one
top_line q indexed (SortedGroups plan) names valid =
    (more (begin (plan_text q.places plan) (plan_line q indexed plan names valid.plan)) (codes ")") refl).one
top_line q indexed (HashGroups plan) names valid =
    (more (begin (plan_text q.places plan) (plan_line q indexed plan names valid.plan)) (codes ")") refl).one

closed_stays : (before text : List ℕ) → Stays ((before ++ text) ++ codes ")")
closed_stays before text = end_stays (before ++ text) (codes ")") (omega arith) refl

-- no CR ends it
pub top_stays : (places : List Place) (top : TopTree) → Stays (codes "plan " ++ top_text places top)
top_stays places (Rows plan) = closed_stays (codes "plan rows(") (plan_text places plan)
top_stays places (SortedGroups plan) = closed_stays (codes "plan sorted_groups(") (plan_text places plan)
top_stays places (HashGroups plan) = closed_stays (codes "plan hash_groups(") (plan_text places plan)
