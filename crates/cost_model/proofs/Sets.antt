-- The places of a valid plan are places of the statement.
use Rattle.std.proofs.Common.{ℕ, ◌≡◌, ◌<◌, ◌+◌, ◌^◌, false, List, length, arith, pow_pos}
use Rattle.std.proofs.Math.Pow.{pow-lt}
use Rattle.row_values.specs.Statements.{Statement}
use Rattle.plan_trees.specs.declared.plans.Access.{Access}
use Rattle.plan_trees.specs.declared.plans.StepKind.{StepKind}
use Rattle.plan_trees.specs.PlaceSets.{has, one}
use Rattle.plan_trees.specs.PlanSpace.{IsValidAccess, IsValidStep, IsValidHashJoin, IsValidPlan}
use Rattle.plan_trees.specs.Trees.{Tree, Base, Join, HashJoin, Sort, place_of, place_entering, places_of}
use Rattle.plan_trees.proofs.Bits.{apart_from_one, both_below}
use Rattle.plan_trees.proofs.SoundParts.{access_in_range, step_in_range}
use Rattle.plan_trees.proofs.ValidPlans.{entering_new}
use Rattle.cost_model.specs.LeastCost.{IsPlaceSet}

-- a set that gains a place stays below the number of sets
pub stays_below : (set place count : ℕ) → has set place ≡ false → set < 2 ^ count → place < count
    → set + one place < 2 ^ count
stays_below set place count h k l = both_below set (one place) count (apart_from_one set place h) k (pow-lt l)

pub set_of_access : (q : Statement) (indexed : List ℕ) (access : Access) → IsValidAccess q indexed access
    → IsPlaceSet q (one (place_of access))
set_of_access q indexed access valid = record {
  some = pow_pos (place_of access);
  there =
      pow-lt (access_in_range q indexed access valid);
}

pub set_after : (q : Statement) (indexed : List ℕ) (set : ℕ) (step : StepKind) → IsPlaceSet q set
    → IsValidStep q indexed set step → IsPlaceSet q (set + one (place_entering step))
set_after q indexed set step h valid = record {
  some = let k = h.some in omega arith;
  there = stays_below set (place_entering step) (length q.places) (entering_new q indexed set step valid) h.there
      (step_in_range q indexed set step valid);
}

pub set_of_both : (q : Statement) (left right edge : ℕ) → IsPlaceSet q left → IsPlaceSet q right
    → IsValidHashJoin q left right edge → IsPlaceSet q (left + right)
set_of_both q left right edge h k valid = record {
  some = let a = h.some in omega arith;
  there = both_below left right (length q.places) valid.0 h.there k.there;
}

pub set_of_plan : (q : Statement) (indexed : List ℕ) (plan : Tree) → IsValidPlan q indexed plan
    → IsPlaceSet q (places_of plan)
set_of_plan q indexed (Base access) valid = set_of_access q indexed access valid
set_of_plan q indexed (Join outer step) valid =
    set_after q indexed (places_of outer) step (set_of_plan q indexed outer valid.0) valid.1
set_of_plan q indexed (HashJoin outer inner edge) valid =
    set_of_both q (places_of outer) (places_of inner) edge (set_of_plan q indexed outer valid.0)
    (set_of_plan q indexed inner valid.1) valid.2
set_of_plan q indexed (Sort outer) valid = set_of_plan q indexed outer valid.0
