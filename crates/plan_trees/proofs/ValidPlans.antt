-- A valid plan names what is there and is nested at most ten deep, so its spelling is read again.
use Rattle.std.proofs.Common.{ℕ, ◌≡◌, ◌≤◌, ◌<◌, ◌+◌, ◌*◌, List, length, Bool, true, false, if◌then◌else◌, refl, sym}
use Rattle.std.proofs.Common.{subst, arith}
use Rattle.row_values.specs.Statements.{Statement, IsSoundQuery}
use Rattle.plan_trees.specs.declared.plans.Access.{Access}
use Rattle.plan_trees.specs.declared.plans.Access.TheVariants.{Seq, Range, Full}
use Rattle.plan_trees.specs.declared.plans.StepKind.{StepKind}
use Rattle.plan_trees.specs.declared.plans.StepKind.TheVariants.{Loop, Probe}
use Rattle.plan_trees.specs.PlaceSets.{has}
use Rattle.plan_trees.specs.PlanSpace.{IsValidAccess, IsValidStep, IsValidPlan, IsValidTop, column_of, is_sorted_plan}
use Rattle.plan_trees.specs.PlanSpace.{wants_order}
use Rattle.plan_trees.specs.Spelling.{HasAccess, HasStep, HasParts, IsPlanText, nesting, top_text}
use Rattle.plan_trees.specs.Trees.{Tree, Base, Join, HashJoin, Sort, TopTree, place_of, place_entering, places_of}
use Rattle.plan_trees.specs.Trees.{plan_below}
use Rattle.plan_trees.proofs.Bits.{both_below, with_one_small, one_small}
use Rattle.plan_trees.proofs.PlaceCounts.{place_count, one_more, one_place, both_places, at_most_five}
use Rattle.plan_trees.proofs.SoundParts.{access_in_range, edge_there, pred_there, step_in_range}

-- What it names is there.

access_there : (q : Statement) (indexed : List ℕ) (access : Access) → IsValidAccess q indexed access
    → HasAccess q access
access_there q indexed (Seq t) valid = valid
access_there q indexed (Range t c j) valid = (valid.0, pred_there q.preds j (column_of t c) valid.2)
access_there q indexed (Full t c) valid = valid.0

step_there : (q : Statement) (indexed : List ℕ) (set : ℕ) (step : StepKind) → IsValidStep q indexed set step
    → HasStep q step
step_there q indexed set (Loop access) valid = access_there q indexed access valid.0
step_there q indexed set (Probe t e) valid = (valid.0, edge_there _ q.edges e valid.2)

plan_there : (q : Statement) (indexed : List ℕ) (plan : Tree) → IsValidPlan q indexed plan → HasParts q plan
plan_there q indexed (Base access) valid = access_there q indexed access valid
plan_there q indexed (Join outer step) valid =
    (plan_there q indexed outer valid.0, step_there q indexed (places_of outer) step valid.1)
plan_there q indexed (HashJoin outer inner edge) valid =
    (plan_there q indexed outer valid.0, plan_there q indexed inner valid.1, edge_there _ q.edges edge valid.2.1)
plan_there q indexed (Sort outer) valid = plan_there q indexed outer valid.0

-- It is nested as deep as it has places.

pub entering_new : (q : Statement) (indexed : List ℕ) (set : ℕ) (step : StepKind) → IsValidStep q indexed set step
    → has set (place_entering step) ≡ false
entering_new q indexed set (Loop access) valid = valid.1
entering_new q indexed set (Probe t e) valid = valid.1

pub places_small : (q : Statement) (indexed : List ℕ) (plan : Tree) → length q.places ≤ 5 → IsValidPlan q indexed plan
    → places_of plan < 32
places_small q indexed (Base access) few valid =
    let there = access_in_range q indexed access valid in one_small (place_of access) (omega arith)
places_small q indexed (Join outer step) few valid =
    let there = step_in_range q indexed (places_of outer) step valid.1 in
    with_one_small (places_of outer) (place_entering step) (places_small q indexed outer few valid.0) (omega arith)
    (entering_new q indexed (places_of outer) step valid.1)
places_small q indexed (HashJoin outer inner edge) few valid =
    both_below (places_of outer) (places_of inner) 5 valid.2.0 (places_small q indexed outer few valid.0)
    (places_small q indexed inner few valid.1)
places_small q indexed (Sort outer) few valid = places_small q indexed outer few valid.0

-- one more for a sort
abbrev sort_count : Bool → ℕ
sort_count sorted = if sorted then 1 else 0

at_most_one : (sorted : Bool) → sort_count sorted ≤ 1
at_most_one true = omega arith
at_most_one false = omega arith

pub some_nested : (plan : Tree) → 1 ≤ nesting plan
some_nested (Base access) = omega arith
some_nested (Join outer step) = omega arith
some_nested (HashJoin outer inner edge) = omega arith
some_nested (Sort outer) = omega arith

-- one plan and one sort for each place, but for the first: it is its plan's only one
nested_by : (q : Statement) (indexed : List ℕ) (plan : Tree) → length q.places ≤ 5 → IsValidPlan q indexed plan
    → nesting plan + 1 ≤ 2 * place_count (places_of plan) + sort_count (is_sorted_plan q plan)
nested_by q indexed (Base access) few valid =
    let there = access_in_range q indexed access valid in
    let count = one_place (place_of access) (omega arith) in
    rw count (omega arith)
nested_by q indexed (Join outer step) few valid =
    let there = step_in_range q indexed (places_of outer) step valid.1 in
    let count = one_more (places_of outer) (place_entering step) (places_small q indexed outer few valid.0)
    (omega arith) (entering_new q indexed (places_of outer) step valid.1) in
    let below = nested_by q indexed outer few valid.0 in
    rw count (omega arith)
nested_by q indexed (HashJoin outer inner edge) few valid =
    let count = both_places (places_of outer) (places_of inner) (places_small q indexed outer few valid.0)
    (places_small q indexed inner few valid.1) valid.2.0 in
    let left = nested_by q indexed outer few valid.0 in
    let right = nested_by q indexed inner few valid.1 in
    let first = some_nested outer in
    let other = some_nested inner in
    let once = at_most_one (is_sorted_plan q outer) in
    let twice = at_most_one (is_sorted_plan q inner) in
    rw count (omega arith)
nested_by q indexed (Sort outer) few valid =
    let below : nesting outer + 1 ≤ 2 * place_count (places_of outer) + 0 =
    subst (λ (b : Bool). nesting outer + 1 ≤ 2 * place_count (places_of outer) + sort_count b) valid.3
    (nested_by q indexed outer few valid.0) in
    let wants : wants_order q ≡ true = valid.1 in
    rw wants (omega arith)

-- a valid plan is nested at most ten deep
pub nested : (q : Statement) (indexed : List ℕ) (plan : Tree) → length q.places ≤ 5 → IsValidPlan q indexed plan
    → nesting plan ≤ 10
nested q indexed plan few valid =
    let deep = nested_by q indexed plan few valid in
    let five = at_most_five (places_of plan) in
    let sort = at_most_one (is_sorted_plan q plan) in
    omega arith

pub few_nested : (q : Statement) (indexed : List ℕ) (plan : Tree) → IsSoundQuery q → IsValidPlan q indexed plan
    → nesting plan ≤ 10
few_nested q indexed plan sound valid = nested q indexed plan sound.few_places valid

-- a valid plan's spelling is a plan text
pub spelled_valid : (q : Statement) (indexed : List ℕ) (top : TopTree) → length q.places ≤ 5 → IsValidTop q indexed top
    → IsPlanText q (top_text q.places top) top
spelled_valid q indexed top few valid =
    let plan = plan_below top in
    let deep = nested q indexed plan few valid.plan in
    record { parts = plan_there q indexed plan valid.plan; nested = omega arith; spelled = refl }

pub spelled_valid_as : (q : Statement) (indexed text : List ℕ) (top : TopTree) → length q.places ≤ 5
    → text ≡ top_text q.places top → IsValidTop q indexed top → IsPlanText q text top
spelled_valid_as q indexed text top few spelled valid =
    subst (λ (t : List ℕ). IsPlanText q t top) (sym spelled) (spelled_valid q indexed top few valid)
