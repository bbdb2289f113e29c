-- What was found of all sets makes the best plan and the tight table.
use Rattle.std.proofs.Common.{ℕ, zero, suc, ◌≡◌, ◌≤◌, ◌<◌, ◌+◌, ◌-◌, ◌*◌, ◌^◌, ◌⊎◌, ◌/◌, inl, inr, Bool, true, false}
use Rattle.std.proofs.Common.{List, [], ◌∷◌, length, map, take, drop, slice_get, slice_index_or, Option, Some, None}
use Rattle.std.proofs.Common.{IsSome, All, unwrap_or, option_and_then, refl, ap, sym, ◌∙◌, subst, arith, true≢false}
use Rattle.std.proofs.Common.{pow_pos, pow-suc, lt_of_lt_of_le}
use Rattle.std.specs.Option.{option_map}
use Rattle.std.proofs.Math.Nat.{div-eq_of_lt, pow-le-pow_right}
use Rattle.std.proofs.lemmas.Bool.{cases_lt}
use Rattle.std.proofs.lemmas.List.{get_or_default, length-map, take_rest}
use Rattle.std.proofs.lemmas.Option.{slice_get-map, slice_get-get_or}
use Rattle.row_values.specs.Statements.{Statement, IsSoundQuery}
use Rattle.plan_trees.specs.declared.plans.Access.TheVariants.{Seq}
use Rattle.plan_trees.specs.declared.plans.StepKind.TheVariants.{Loop}
use Rattle.plan_trees.specs.PlaceSets.{has, one}
use Rattle.plan_trees.specs.PlanSpace.{IsValidTop, is_grouped, wants_order}
use Rattle.plan_trees.specs.Statistics.{Statistics}
use Rattle.plan_trees.specs.Trees.{TopTree, Rows, SortedGroups, HashGroups, plan_below, top_tree}
use Rattle.cost_model.specs.Costs.{access_unit, plan_cost, step_cost, top_cost}
use Rattle.cost_model.specs.LeastCost.{AtMost, FitsTable, IsFeasible, IsLeastCost, IsPlaceSet, IsTight, IsTightCell}
use Rattle.cost_model.specs.LeastCost.{Table, whole_set}
use Rattle.plan_trees.specs.declared.scale.TheConstants.{COST_SCALE}
use Rattle.cost_model.proofs.LowerBounds.{access_bounds, below_every_top, below_plan, not_sorted, step_bounds}
use Rattle.cost_model.proofs.Sets.{set_of_plan}
use Rattle.cost_model.proofs.SomeTop.{some_top}
use Rattle.plan_costs.specs.declared.planner.Best.{Best}
use Rattle.plan_costs.specs.declared.potentials.Cell.{Cell}
use Rattle.plan_costs.specs.LowerBounds.{LowerBounds}
use Rattle.plan_costs.specs.BestPlans.{IsBest, in_cell, table_of_cells}
use Rattle.join_optimizer.specs.declared.found.Cheapest.{Cheapest}
use Rattle.join_optimizer.specs.declared.found.Found.{Found}
use Rattle.join_optimizer.specs.Found.{cost_in, cost_of, found_in, nothing, seen, table_of}
use Rattle.join_optimizer.specs.Potentials.{numbers}
use Rattle.join_optimizer.specs.Search.{AreCheapest}
use Rattle.join_optimizer.specs.Tops.{PricedTop, IsCheapestTop}
use Rattle.join_optimizer.proofs.Filling.{feasible_all, tight_at}

-- Every set has a plan.

outside : (n from : ℕ) → from < 2 ^ n → has from n ≡ false
outside n from less = let e : from / 2 ^ n ≡ 0 = div-eq_of_lt less in rw e refl

set_below : (q : Statement) (n from : ℕ) → n ≤ length q.places → 0 < from → from < 2 ^ n → IsPlaceSet q from
set_below q n from few some less =
    record { some = some; there = lt_of_lt_of_le less (pow-le-pow_right (omega arith) few) }

has_number_from : (q : Statement) (s : Statistics) (vector : List ℕ) (table : Table) (n from set : ℕ)
    → IsFeasible q s vector table → suc n ≤ length q.places → from < 2 ^ n → from + one n ≡ set
    → ((from : ℕ) → 0 < from → from < 2 ^ n → (m : ℕ) × AtMost (table false from) m)
    → (m : ℕ) × AtMost (table false set) m
has_number_from q s vector table n zero set f few less e below = (
  COST_SCALE * access_unit q s vector (Seq n),
  subst
      (λ k. AtMost (table false k) (COST_SCALE * access_unit q s vector (Seq n)))
      (let alone : one n ≡ set = omega arith in alone) (access_bounds f false (Seq n) few not_sorted),
)
has_number_from q s vector table n (suc from) set f few less e below =
    let before = below (suc from) (omega arith) less in (
      before.0 + step_cost q s vector (suc from) (Loop (Seq n)),
      subst (λ k. AtMost (table false k) (before.0 + step_cost q s vector (suc from) (Loop (Seq n)))) e
          (step_bounds f false (suc from) before.0 (Loop (Seq n))
          (set_below q n (suc from) (omega arith) (omega arith) less) (few, outside n (suc from) less) before.1),
    )

has_number_by : (q : Statement) (s : Statistics) (vector : List ℕ) (table : Table) (n set : ℕ)
    → IsFeasible q s vector table → suc n ≤ length q.places → 0 < set → set < 2 ^ suc n
    → (set < 2 ^ n → (m : ℕ) × AtMost (table false set) m) → (set < 2 ^ n) ⊎ (2 ^ n ≤ set)
    → ((from : ℕ) → 0 < from → from < 2 ^ n → (m : ℕ) × AtMost (table false from) m)
    → (m : ℕ) × AtMost (table false set) m
has_number_by q s vector table n set f few some less same (inl h) below = same h
has_number_by q s vector table n set f few some less same (inr h) below =
    has_number_from q s vector table n (set - 2 ^ n) set f few (let e = pow-suc 2 n in omega arith) (omega arith) below

has_number : (q : Statement) (s : Statistics) (vector : List ℕ) (table : Table) (n set : ℕ)
    → IsFeasible q s vector table → n ≤ length q.places → 0 < set → set < 2 ^ n → (m : ℕ) × AtMost (table false set) m
has_number q s vector table zero set f few some less = absurd (omega arith)
has_number q s vector table (suc n) set f few some less =
    has_number_by q s vector table n set f few some less (has_number q s vector table n set f (omega arith) some)
    (cases_lt set (2 ^ n)) (λ from. has_number q s vector table n from f (omega arith))

there_by : (o : Option Found) (m : ℕ) → AtMost (cost_of (seen o)) m → IsSome o
there_by None m h = absurd h
there_by (Some found) m h = refl

-- what was found of a set has a plan
pub any_there : (q : Statement) (s : Statistics) (vector : List ℕ) (cells : List Cheapest) (set : ℕ)
    → AreCheapest q s vector cells (2 ^ length q.places) → IsPlaceSet q set
    → IsSome (slice_index_or cells set nothing).any
any_there q s vector cells set h p =
    let number = has_number q s vector (table_of cells) (length q.places) set (feasible_all q s vector cells h)
    (omega arith) p.some p.there in
    there_by (slice_index_or cells set nothing).any number.0 number.1

pub whole_there : (q : Statement) (indexed : List ℕ) → IsSoundQuery q → IsPlaceSet q (whole_set q)
whole_there q indexed query =
    let top = some_top q indexed query in
    subst (λ n. IsPlaceSet q n) top.valid.whole (set_of_plan q indexed (plan_below top.top) top.valid.plan)

in_order_by : (q : Statement) (s : Statistics) (vector : List ℕ) (cells : List Cheapest) (top : TopTree)
    → AreCheapest q s vector cells (2 ^ length q.places) → IsValidTop q s.indexed top → is_grouped q ≡ false
    → IsSome (found_in (wants_order q) (slice_index_or cells (whole_set q) nothing))
in_order_by q s vector cells (Rows plan) h v g =
    let below = below_plan {q = q} {s = s} {vector = vector} {table = table_of cells} (wants_order q) plan
    (feasible_all q s vector cells h) v.plan v.suits.1 in
    there_by (found_in (wants_order q) (slice_index_or cells (whole_set q) nothing)) (plan_cost q s vector plan)
    (subst (λ n. AtMost (table_of cells (wants_order q) n) (plan_cost q s vector plan)) v.whole below)
in_order_by q s vector cells (SortedGroups plan) h v g = absurd (true≢false (sym v.suits.0 ∙ g))
in_order_by q s vector cells (HashGroups plan) h v g = absurd (true≢false (sym v.suits ∙ g))

-- where rows aren't grouped, a plan of all places gives the wanted order
pub in_order_there : (q : Statement) (s : Statistics) (vector : List ℕ) (cells : List Cheapest) → IsSoundQuery q
    → AreCheapest q s vector cells (2 ^ length q.places) → is_grouped q ≡ false
    → IsSome (found_in (wants_order q) (slice_index_or cells (whole_set q) nothing))
in_order_there q s vector cells query h g = let top = some_top q s.indexed query in
    in_order_by q s vector cells top.top h top.valid g

-- The cells but the first.

rest_is : (cell : Cheapest) (cells : List Cheapest) → take (length (cell ∷ cells) - 1) (drop 1 (cell ∷ cells)) ≡ cells
rest_is cell cells = take_rest (cell ∷ cells) 1

rest_there_by : (q : Statement) (s : Statistics) (vector : List ℕ) (cells : List Cheapest)
    → AreCheapest q s vector cells (2 ^ length q.places)
    → All (λ cell. IsSome cell.any) (take (length cells - 1) (drop 1 cells))
rest_there_by q s vector [] h = let e = h.counted in let p : 0 < 2 ^ length q.places = pow_pos (length q.places) in
    absurd (omega arith)
rest_there_by q s vector (cell ∷ cells) h =
    subst (λ xs. All (λ cell. IsSome cell.any) xs) (sym (rest_is cell cells))
    (λ k d less.
    let count : suc (length cells) ≡ 2 ^ length q.places = h.counted in
    let there = any_there q s vector (cell ∷ cells) (suc k) h (record { some = omega arith; there = omega arith }) in
    subst (λ (x : Cheapest). IsSome x.any) (get_or_default cells k nothing d less) there)

-- each set but the empty one has a plan
pub rest_there : (q : Statement) (s : Statistics) (vector : List ℕ) (cells read : List Cheapest)
    → AreCheapest q s vector cells (2 ^ length q.places) → read ≡ cells
    → All (λ cell. IsSome cell.any) (take (length read - 1) (drop 1 read))
rest_there q s vector cells read h e = subst (λ xs. All (λ cell. IsSome cell.any) (take (length xs - 1) (drop 1 xs)))
    (sym e) (rest_there_by q s vector cells h)

any_same : (o : Option Found) → IsSome o → Some (unwrap_or (cost_of (seen o)) 0) ≡ cost_of (seen o)
any_same None h = absurd (cc)
any_same (Some found) h = refl

numbers_same : (sorted : Bool) (cell : Cheapest) → IsSome cell.any → in_cell sorted (numbers cell) ≡ cost_in cell sorted
numbers_same true cell h = refl
numbers_same false cell h = any_same cell.any h

table_same_by : (cells : List Cheapest) (sorted : Bool) (position : ℕ) → position < length cells
    → IsSome (slice_index_or cells position nothing).any
    → option_and_then (in_cell sorted) (slice_get (map numbers cells) position) ≡ cost_in
    (slice_index_or cells position nothing) sorted
table_same_by cells sorted position less h =
    ap (option_and_then (in_cell sorted))
    (slice_get-map numbers cells position ∙ ap (option_map numbers) (slice_get-get_or cells position nothing less))
    ∙ numbers_same sorted (slice_index_or cells position nothing) h

table_same : (q : Statement) (s : Statistics) (vector : List ℕ) (cell : Cheapest) (cells : List Cheapest)
    → AreCheapest q s vector (cell ∷ cells) (2 ^ length q.places)
    → (sorted : Bool) (set : ℕ) → IsPlaceSet q set
    → table_of (cell ∷ cells) sorted set ≡ table_of_cells (map numbers cells) sorted set
table_same q s vector cell cells h sorted zero p = let some = p.some in absurd (omega arith)
table_same q s vector cell cells h sorted (suc position) p =
    let count : suc (length cells) ≡ 2 ^ length q.places = h.counted in
    let few = p.there in
    sym (table_same_by cells sorted position (omega arith) (any_there q s vector (cell ∷ cells) (suc position) h p))

-- The best plan.

fits_table : (q : Statement) (s : Statistics) (vector : List ℕ) (cells : List Cheapest) (whole : Cheapest) (least : ℕ)
    → whole ≡ slice_index_or cells (whole_set q) nothing
    → FitsTable q s vector (λ sorted set. cost_in whole sorted) least → FitsTable q s vector (table_of cells) least
fits_table q s vector cells whole least e f =
    let here : FitsTable q s vector (λ sorted set. cost_in (slice_index_or cells (whole_set q) nothing) sorted) least =
    subst (λ (x : Cheapest). FitsTable q s vector (λ sorted set. cost_in x sorted) least) e f in
    record {
      rows = λ cost g h. here.rows cost g h;
      sorted_groups =
          λ cost g h. here.sorted_groups cost g h;
      hash_groups = λ cost g h. here.hash_groups cost g h;
    }

least_cost : (q : Statement) (s : Statistics) (vector : List ℕ) (cells : List Cheapest) (whole : Cheapest)
    (finished : PricedTop) → AreCheapest q s vector cells (2 ^ length q.places)
    → whole ≡ slice_index_or cells (whole_set q) nothing
    → IsCheapestTop q s vector whole finished → IsLeastCost q s vector finished.cost
least_cost q s vector cells whole finished h e best = record {
  reached = record { top = finished.top; valid = best.stands.valid; costs = best.stands.costs };
  below_all = λ top valid. below_every_top q s vector (table_of cells) finished.cost top
      (feasible_all q s vector cells h) (fits_table q s vector cells whole finished.cost e best.fits) valid;
}

-- what the rest of the cells gives as potentials
record AreTight (q : Statement) (s : Statistics) (vector : List ℕ) (numbers : List Cell) (least : ℕ) : Type 0 where
  one_each : length numbers + 1 ≡ 2 ^ length q.places
  tight : IsTight q s vector (table_of_cells numbers) least

tight_numbers : (q : Statement) (s : Statistics) (vector : List ℕ) (cells : List Cheapest) (least : ℕ)
    → AreCheapest q s vector cells (2 ^ length q.places) → IsLeastCost q s vector least
    → AreTight q s vector (map numbers (take (length cells - 1) (drop 1 cells))) least
tight_numbers q s vector [] least h l = let e = h.counted in let p : 0 < 2 ^ length q.places =
    pow_pos (length q.places) in absurd (omega arith)
tight_numbers q s vector (cell ∷ cells) least h l =
    let count : suc (length cells) ≡ 2 ^ length q.places = h.counted in
    subst (λ xs. AreTight q s vector (map numbers xs) least) (sym (rest_is cell cells)) (record {
      one_each = ap (λ n. n + 1) (length-map cells numbers)
          ∙ (let more : length cells + 1 ≡ 2 ^ length q.places = omega arith in more);
      tight = record {
        cells = λ sorted set p. subst (λ o. IsTightCell q s vector sorted set o)
            (table_same q s vector cell cells h sorted set p) (tight_at q s vector (cell ∷ cells) h sorted set);
        least_cost = l;
      };
    })

pub is_best : (q : Statement) (s : Statistics) (vector : List ℕ) (cells read : List Cheapest) (list : List Cell)
    (whole : Cheapest) (finished : PricedTop) (best : Best) → AreCheapest q s vector cells (2 ^ length q.places)
    → whole ≡ slice_index_or cells (whole_set q) nothing → read ≡ cells
    → list ≡ map numbers (take (length read - 1) (drop 1 read)) → IsCheapestTop q s vector whole finished
    → top_tree best.plan.value ≡ finished.top → best.cost ≡ finished.cost
    → best.potentials ≡ record { cells = list; least = finished.cost } → IsBest q s vector best
is_best q s vector cells read list whole finished best h e r l t top cost potentials =
    let least : IsLeastCost q s vector finished.cost = least_cost q s vector cells whole finished h e t in
    let tight : AreTight q s vector (map numbers (take (length cells - 1) (drop 1 cells))) finished.cost =
    tight_numbers q s vector cells finished.cost h least in
    let same : map numbers (take (length cells - 1) (drop 1 cells)) ≡ list =
    ap (λ xs. map numbers (take (length xs - 1) (drop 1 xs))) (sym r) ∙ sym l in
    let here : AreTight q s vector list finished.cost = subst (λ xs. AreTight q s vector xs finished.cost) same tight in
    record {
      valid = subst (λ x. IsValidTop q s.indexed x) (sym top) t.stands.valid;
      costs = ap (top_cost q s vector) top ∙ t.stands.costs ∙ sym cost;
      least = subst (λ n. IsLeastCost q s vector n) (sym cost) least;
      one_each = ap (λ (b : LowerBounds). length b.cells + 1) potentials ∙ here.one_each;
      tight = subst (λ (b : LowerBounds). IsTight q s vector (table_of_cells b.cells) b.least)
          (sym potentials) here.tight;
      same = ap (λ (b : LowerBounds). b.least) potentials ∙ sym cost;
    }
