-- A feasible table is below every valid plan, and a tight table is feasible.
use Rattle.std.proofs.Common.{ℕ, ◌≡◌, ◌≤◌, ◌<◌, ◌+◌, ◌*◌, Bool, true, false, IsTrue, List, Option, Some, None, ap, sym}
use Rattle.std.proofs.Common.{◌∙◌, refl, subst, subst₂, arith, true≢false, le_trans}
use Rattle.row_values.specs.Statements.{Statement}
use Rattle.plan_trees.specs.declared.plans.Access.{Access}
use Rattle.plan_trees.specs.declared.plans.StepKind.{StepKind}
use Rattle.plan_trees.specs.PlaceSets.{one}
use Rattle.plan_trees.specs.PlanSpace.{IsValidAccess, IsValidStep, IsValidHashJoin, IsValidPlan, IsValidTop}
use Rattle.plan_trees.specs.PlanSpace.{IsSortedPlan, has_all_keys, is_sorted_access, is_sorted_plan, wanted_order}
use Rattle.plan_trees.specs.PlanSpace.{wants_order}
use Rattle.plan_trees.specs.Statistics.{Statistics}
use Rattle.plan_trees.specs.Trees.{Tree, Base, Join, HashJoin, Sort, TopTree, Rows, SortedGroups, HashGroups, place_of}
use Rattle.plan_trees.specs.Trees.{place_entering, places_of, plan_below}
use Rattle.cost_model.specs.Cardinalities.{card_of}
use Rattle.cost_model.specs.Costs.{access_unit, step_cost, join_cost, sort_cost, plan_cost, top_cost}
use Rattle.cost_model.specs.LeastCost.{Table, AtMost, IsPlaceSet, IsPlanOf, IsTightCell, IsTight, IsFeasible, FitsTable}
use Rattle.cost_model.specs.LeastCost.{whole_set}
use Rattle.plan_trees.specs.declared.scale.TheConstants.{COST_SCALE}
use Rattle.plan_trees.proofs.SoundParts.{access_in_range, step_in_range}
use Rattle.cost_model.proofs.Sets.{set_of_access, set_after, set_of_both, set_of_plan}

-- infinity or a number stays at most a larger number
pub at_most_more : (o : Option ℕ) (m n : ℕ) → AtMost o m → m ≤ n → AtMost o n
at_most_more None m n h k = h
at_most_more (Some x) m n h k = omega arith

pub not_sorted : {A : Type 0} → IsTrue false → A
not_sorted h = absurd (true≢false (sym h))

-- Feasible tables are below.

pub access_bounds : {q : Statement} {s : Statistics} {vector : List ℕ} {table : Table} → IsFeasible q s vector table
    → (sorted : Bool) (access : Access) → IsValidAccess q s.indexed access
    → (IsTrue sorted → IsTrue (is_sorted_access q access))
    → AtMost (table sorted (one (place_of access))) (COST_SCALE * access_unit q s vector access)
access_bounds {q} {s} f sorted access valid ordered =
    let here = f (one (place_of access)) (set_of_access q s.indexed access valid) in
    (here.places (place_of access) (access_in_range q s.indexed access valid)).access sorted access valid refl refl
    ordered

pub step_bounds : {q : Statement} {s : Statistics} {vector : List ℕ} {table : Table} → IsFeasible q s vector table
    → (sorted : Bool) (set cost : ℕ) (step : StepKind) → IsPlaceSet q set → IsValidStep q s.indexed set step
    → AtMost (table sorted set) cost
    → AtMost (table sorted (set + one (place_entering step))) (cost + step_cost q s vector set step)
step_bounds {q} {s} f sorted set cost step p valid below =
    let here = f (set + one (place_entering step)) (set_after q s.indexed set step p valid) in
    (here.places (place_entering step) (step_in_range q s.indexed set step valid)).step sorted set cost step p.some refl
    valid refl below

join_bounds : {q : Statement} {s : Statistics} {vector : List ℕ} {table : Table} → IsFeasible q s vector table
    → (sorted : Bool) (left right edge outer inner : ℕ) → IsPlaceSet q left → IsPlaceSet q right
    → IsValidHashJoin q left right edge → AtMost (table sorted left) outer → AtMost (table false right) inner
    → AtMost (table sorted (left + right)) (outer + inner + join_cost q s vector left right)
join_bounds {q} f sorted left right edge outer inner p r valid below inside =
    let some = p.some in
    (f (left + right) (set_of_both q left right edge p r valid)).splits right r.some (omega arith) sorted left edge
    outer inner refl valid below inside

-- no valid plan undercuts its cell of a feasible table
pub below_plan : {q : Statement} {s : Statistics} {vector : List ℕ} {table : Table} (sorted : Bool) (plan : Tree)
    → IsFeasible q s vector table → IsValidPlan q s.indexed plan
    → (IsTrue sorted → IsSortedPlan q plan) → AtMost (table sorted (places_of plan)) (plan_cost q s vector plan)
below_plan sorted (Base access) f v e = access_bounds f sorted access v e
below_plan {q} {s} sorted (Join outer step) f v e =
    step_bounds f sorted (places_of outer) _ step (set_of_plan q s.indexed outer v.0) v.1
    (below_plan sorted outer f v.0 e)
below_plan {q} {s} sorted (HashJoin outer inner edge) f v e =
    join_bounds f sorted (places_of outer) (places_of inner) edge _ _ (set_of_plan q s.indexed outer v.0)
    (set_of_plan q s.indexed inner v.1) v.2 (below_plan sorted outer f v.0 e)
    (below_plan false inner f v.1 not_sorted)
below_plan {q} {s} true (Sort outer) f v e =
    (f (places_of outer) (set_of_plan q s.indexed outer v.0)).sort _ v.1 v.2 (below_plan false outer f v.0 not_sorted)
below_plan {table = table} false (Sort outer) f v e =
    at_most_more (table false (places_of outer)) _ _ (below_plan false outer f v.0 not_sorted) (omega arith)

below_top : {q : Statement} {s : Statistics} {vector : List ℕ} {table : Table} {least : ℕ} (top : TopTree)
    → IsFeasible q s vector table → FitsTable q s vector table least
    → IsValidTop q s.indexed top → least ≤ top_cost q s vector top
below_top {q} {s} {vector} {table} (Rows plan) f g v =
    g.rows _ v.suits.0 (subst (λ n. AtMost (table (wants_order q) n) (plan_cost q s vector plan)) v.whole
    (below_plan (wants_order q) plan f v.plan v.suits.1))
below_top {q} {s} {vector} {table} (SortedGroups plan) f g v =
    rw v.whole (g.sorted_groups _ v.suits.0 (subst (λ n. AtMost (table true n) (plan_cost q s vector plan)) v.whole
    (below_plan true plan f v.plan (λ h. v.suits.1))))
below_top {q} {s} {vector} {table} (HashGroups plan) f g v =
    rw v.whole (g.hash_groups _ v.suits (subst (λ n. AtMost (table false n) (plan_cost q s vector plan)) v.whole
    (below_plan false plan f v.plan not_sorted)))

pub below_every_top : (q : Statement) (s : Statistics) (vector : List ℕ) (table : Table) (least : ℕ) (top : TopTree)
    → IsFeasible q s vector table → FitsTable q s vector table least
    → IsValidTop q s.indexed top → least ≤ top_cost q s vector top
below_every_top q s vector table least top feasible fits valid = below_top top feasible fits valid

-- Tight tables are feasible.

-- a plan that costs no more than this
record IsReachedWithin (q : Statement) (s : Statistics) (vector : List ℕ) (sorted : Bool) (set cost : ℕ) : Type 0 where
  plan : Tree
  fits : IsPlanOf q s sorted set plan
  within : plan_cost q s vector plan ≤ cost

reached : (q : Statement) (s : Statistics) (vector : List ℕ) (sorted : Bool) (set cost : ℕ) (cell : Option ℕ)
    → IsTightCell q s vector sorted set cell → AtMost cell cost → IsReachedWithin q s vector sorted set cost
reached q s vector sorted set cost None t h = absurd h
reached q s vector sorted set cost (Some n) t h = record {
  plan = t.plan;
  fits = t.fits;
  within = let e =
      t.costs in omega arith;
}

not_above : (q : Statement) (s : Statistics) (vector : List ℕ) (sorted : Bool) (set : ℕ) (cell : Option ℕ) (plan : Tree)
    → IsTightCell q s vector sorted set cell → IsPlanOf q s sorted set plan → AtMost cell (plan_cost q s vector plan)
not_above q s vector sorted set None plan t h = absurd (t plan h)
not_above q s vector sorted set (Some n) plan t h = t.below_all plan h

stepped : (q : Statement) (s : Statistics) (sorted : Bool) (set : ℕ) (step : StepKind) (plan : Tree)
    → IsPlanOf q s sorted set plan → IsValidStep q s.indexed set step
    → IsPlanOf q s sorted (set + one (place_entering step)) (Join plan step)
stepped q s sorted set step plan h v = record {
  valid = (h.valid, subst (λ n. IsValidStep q s.indexed n step) (sym h.whole) v);
  whole = ap (λ n. n + one (place_entering step)) h.whole;
  in_order = h.in_order;
}

step_from : (q : Statement) (s : Statistics) (vector : List ℕ) (step : StepKind) (places set below cost : ℕ)
    → places ≡ set → below ≤ cost → below + step_cost q s vector places step ≤ cost + step_cost q s vector set step
step_from q s vector step places set below cost e h = rw e (omega arith)

tight_step : (q : Statement) (s : Statistics) (vector : List ℕ) (table : Table) (least : ℕ)
    → IsTight q s vector table least → (sorted : Bool) (set cost : ℕ) (step : StepKind) → IsPlaceSet q set
    → IsValidStep q s.indexed set step
    → AtMost (table sorted set) cost
    → AtMost (table sorted (set + one (place_entering step))) (cost + step_cost q s vector set step)
tight_step q s vector table least t sorted set cost step p v h =
    let from = reached q s vector sorted set cost (table sorted set) (t.cells sorted set p) h in
    let after = set + one (place_entering step) in
    at_most_more (table sorted after) _ _
    (not_above q s vector sorted after (table sorted after) (Join from.plan step)
    (t.cells sorted after (set_after q s.indexed set step p v)) (stepped q s sorted set step from.plan from.fits v))
    (step_from q s vector step (places_of from.plan) set (plan_cost q s vector from.plan) cost from.fits.whole
    from.within)

joined : (q : Statement) (s : Statistics) (sorted : Bool) (left right edge : ℕ) (outer inner : Tree)
    → IsPlanOf q s sorted left outer → IsPlanOf q s false right inner → IsValidHashJoin q left right edge
    → IsPlanOf q s sorted (left + right) (HashJoin outer inner edge)
joined q s sorted left right edge outer inner h k v = record {
  valid = (h.valid, k.valid, subst₂ (λ a b. IsValidHashJoin q a b edge) (sym h.whole) (sym k.whole) v);
  whole = let a = h.whole in let b = k.whole in omega arith;
  in_order = h.in_order;
}

join_from : (q : Statement) (s : Statistics) (vector : List ℕ)
    (first second left right below inside outer_cost inner_cost : ℕ) → first ≡ left → second ≡ right
    → below ≤ outer_cost → inside ≤ inner_cost
    → below + inside + join_cost q s vector first second ≤ outer_cost + inner_cost + join_cost q s vector left right
join_from q s vector first second left right below inside outer_cost inner_cost e f h k = rw (e, f) (omega arith)

tight_join : (q : Statement) (s : Statistics) (vector : List ℕ) (table : Table) (least : ℕ)
    → IsTight q s vector table least → (sorted : Bool) (left right edge outer_cost inner_cost : ℕ) → IsPlaceSet q left
    → IsPlaceSet q right
    → IsValidHashJoin q left right edge → AtMost (table sorted left) outer_cost → AtMost (table false right) inner_cost
    → AtMost (table sorted (left + right)) (outer_cost + inner_cost + join_cost q s vector left right)
tight_join q s vector table least t sorted left right edge outer_cost inner_cost p r v h k =
    let outer = reached q s vector sorted left outer_cost (table sorted left) (t.cells sorted left p) h in
    let inner = reached q s vector false right inner_cost (table false right) (t.cells false right r) k in
    let both = left + right in
    at_most_more (table sorted both) _ _
    (not_above q s vector sorted both (table sorted both) (HashJoin outer.plan inner.plan edge)
    (t.cells sorted both (set_of_both q left right edge p r v))
    (joined q s sorted left right edge outer.plan inner.plan outer.fits inner.fits v))
    (join_from q s vector (places_of outer.plan) (places_of inner.plan) left right (plan_cost q s vector outer.plan)
    (plan_cost q s vector inner.plan) outer_cost inner_cost outer.fits.whole inner.fits.whole outer.within
    inner.within)

-- a plan of the set becomes a sorted one, by a sort if it isn't one already
sorted_by : (q : Statement) (s : Statistics) (vector : List ℕ) (set cost : ℕ) (cell : Option ℕ) (plan : Tree) (b : Bool)
    → IsTightCell q s vector true set cell → IsPlanOf q s false set plan → plan_cost q s vector plan ≤ cost
    → IsTrue (wants_order q) → IsTrue (has_all_keys set (wanted_order q)) → is_sorted_plan q plan ≡ b
    → AtMost cell (cost + sort_cost q s vector set)
sorted_by q s vector set cost cell plan true t fits within wants keys e =
    at_most_more cell _ _ (not_above q s vector true set cell plan t (record {
      valid = fits.valid;
      whole =
          fits.whole;
      in_order = λ h. e;
    })) (omega arith)
sorted_by q s vector set cost cell plan false t fits within wants keys e =
    at_most_more cell _ _
    (not_above q s vector true set cell (Sort plan) t (record {
      valid = (fits.valid, wants, subst (λ n. IsTrue (has_all_keys n (wanted_order q))) (sym fits.whole) keys, e);
      whole = fits.whole;
      in_order = λ h. wants;
    }))
    (rw fits.whole (omega arith))

tight_sort : (q : Statement) (s : Statistics) (vector : List ℕ) (table : Table) (least : ℕ)
    → IsTight q s vector table least → (set cost : ℕ) → IsPlaceSet q set → IsTrue (wants_order q)
    → IsTrue (has_all_keys set (wanted_order q))
    → AtMost (table false set) cost → AtMost (table true set) (cost + sort_cost q s vector set)
tight_sort q s vector table least t set cost p wants keys h =
    let from = reached q s vector false set cost (table false set) (t.cells false set p) h in
    sorted_by q s vector set cost (table true set) from.plan (is_sorted_plan q from.plan) (t.cells true set p) from.fits
    from.within wants keys refl

-- a part of a set of places is one
part_set : (q : Statement) (part other set : ℕ) → 0 < part → part + other ≡ set → IsPlaceSet q set → IsPlaceSet q part
part_set q part other set some sum p = record { some = some; there = let k = p.there in omega arith }

tight_feasible : (q : Statement) (s : Statistics) (vector : List ℕ) (table : Table) (least : ℕ)
    → IsTight q s vector table least → IsFeasible q s vector table
tight_feasible q s vector table least t = λ set p. record {
  places = λ place there. record {
    access = λ sorted access v at alone e.
        let whole : one (place_of access) ≡ set = ap one at ∙ alone in
        not_above q s vector sorted set (table sorted set) (Base access) (t.cells sorted set p) (record {
          valid =
              v;
          whole = whole;
          in_order = e;
        });
    step = λ sorted from cost step some sum v enters h.
        let whole : from + one (place_entering step) ≡ set = ap (λ n. from + one n) enters ∙ sum in
        subst (λ n. AtMost (table sorted n) (cost + step_cost q s vector from step)) whole
        (tight_step q s vector table least t sorted from cost step (part_set q from (one place) set some sum p) v h);
  };
  splits = λ right some less sorted left edge outer inner sum v h k.
      subst (λ n. AtMost (table sorted n) (outer + inner + join_cost q s vector left right)) sum
      (tight_join q s vector table least t sorted left right edge outer inner
      (part_set q left right set (omega arith) sum p) (part_set q right left set some (omega arith) p) v h k);
  sort = λ cost wants keys h. tight_sort q s vector table least t set cost p wants keys h;
}

-- the whole set is one, since there is a valid top
whole_is_set : (q : Statement) (s : Statistics) (vector : List ℕ) (table : Table) (least : ℕ)
    → IsTight q s vector table least → IsPlaceSet q (whole_set q)
whole_is_set q s vector table least t =
    let top = t.least_cost.reached.top in
    subst (λ n. IsPlaceSet q n) t.least_cost.reached.valid.whole
    (set_of_plan q s.indexed (plan_below top) t.least_cost.reached.valid.plan)

whole_plan : (q : Statement) (s : Statistics) (vector : List ℕ) (table : Table) (least : ℕ)
    → IsTight q s vector table least → (sorted : Bool) (cost : ℕ) → AtMost (table sorted (whole_set q)) cost
    → IsReachedWithin q s vector sorted (whole_set q) cost
whole_plan q s vector table least t sorted cost h =
    reached q s vector sorted (whole_set q) cost (table sorted (whole_set q))
    (t.cells sorted _ (whole_is_set q s vector table least t)) h

finished : (q : Statement) (s : Statistics) (vector : List ℕ) (places set least below cost weight : ℕ) → places ≡ set
    → below ≤ cost → least ≤ below + weight * card_of q s vector places → least ≤ cost + weight * card_of q s vector set
finished q s vector places set least below cost weight e h g = let k =
    subst (λ n. least ≤ below + weight * card_of q s vector n) e g in omega arith

tight_fits : (q : Statement) (s : Statistics) (vector : List ℕ) (table : Table) (least : ℕ)
    → IsTight q s vector table least → FitsTable q s vector table least
tight_fits q s vector table least t = record {
  rows = λ cost one_row h.
      let from = whole_plan q s vector table least t (wants_order q) cost h in
      le_trans (t.least_cost.below_all (Rows from.plan) (record {
        plan = from.fits.valid;
        whole =
            from.fits.whole;
        suits = (one_row, from.fits.in_order);
      })) from.within;
  sorted_groups = λ cost grouped h.
      let from = whole_plan q s vector table least t true cost h in
      finished q s vector (places_of from.plan) (whole_set q) least (plan_cost q s vector from.plan) cost s.weights.row
      from.fits.whole from.within
      (t.least_cost.below_all (SortedGroups from.plan) (record {
        plan = from.fits.valid;
        whole =
            from.fits.whole;
        suits = (grouped, from.fits.in_order refl);
      }));
  hash_groups = λ cost grouped h.
      let from = whole_plan q s vector table least t false cost h in
      finished q s vector (places_of from.plan) (whole_set q) least (plan_cost q s vector from.plan) cost s.weights.hash
      from.fits.whole from.within
      (t.least_cost.below_all (HashGroups from.plan) (record {
        plan = from.fits.valid;
        whole = from.fits.whole;
        suits =
            grouped;
      }));
}

pub feasible_if_tight : (q : Statement) (s : Statistics) (vector : List ℕ) (table : Table) (least : ℕ)
    → IsTight q s vector table least → IsFeasible q s vector table × FitsTable q s vector table least
feasible_if_tight q s vector table least tight =
    (tight_feasible q s vector table least tight, tight_fits q s vector table least tight)
