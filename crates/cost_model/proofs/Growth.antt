-- Costs grow by no more than their selectivities: each cost is a sum of products in which a selectivity stands
-- at most once.
use Rattle.std.proofs.Common.{ℕ, zero, suc, ◌≡◌, ◌<◌, ◌+◌, ◌*◌, Bool, true, false, List, [], ◌∷◌, Some, map, length}
use Rattle.std.proofs.Common.{take, get_or, slice_get, slice_index, if◌then◌else◌, ap, sym, ◌∙◌, refl, subst, subst₂}
use Rattle.std.proofs.Common.{arith, mul_assoc, mul_comm, mul-add, mul_left_comm, true≢false}
use Rattle.std.specs.Option.{option_map, option_map_or}
use Rattle.row_values.specs.Statements.{Statement, is_parameterised, selectivity_count}
use Rattle.row_values.specs.declared.statement.ColRef.{ColRef}
use Rattle.row_values.specs.declared.statement.Pred.{Pred}
use Rattle.plan_trees.specs.declared.plans.Access.{Access}
use Rattle.plan_trees.specs.declared.plans.Access.TheVariants.{Seq, Range, Full}
use Rattle.plan_trees.specs.declared.plans.StepKind.{StepKind}
use Rattle.plan_trees.specs.declared.plans.StepKind.TheVariants.{Loop, Probe}
use Rattle.plan_trees.specs.PlaceSets.{has}
use Rattle.plan_trees.specs.PlanSpace.{IsValidAccess, IsValidStep, IsValidPlan, IsValidTop, column_of}
use Rattle.plan_trees.specs.Statistics.{Statistics, selectivity_places}
use Rattle.plan_trees.specs.Trees.{Tree, Base, Join, HashJoin, Sort, TopTree, Rows, SortedGroups, HashGroups, place_of}
use Rattle.plan_trees.specs.Trees.{places_of}
use Rattle.cost_model.specs.Cardinalities.{marked_product, selected_product, kappa, card_of}
use Rattle.cost_polynomials.specs.Growth.{grown_to, grown_from}
use Rattle.cost_polynomials.proofs.Growth.{Grows, cross, factor, from_below_to, grow_const, grow_sum, grow_times}
use Rattle.cost_model.specs.Costs.{digits, rows_met, access_unit, step_cost, join_cost, plan_cost, top_cost}
use Rattle.cost_model.specs.Laws.{GrowsWithin, IsVectorOf}
use Rattle.plan_trees.specs.declared.scale.TheConstants.{COST_SCALE}

-- Products of marked selectivities.

grow_times_right : {u v x y : ℕ} (k : ℕ) → Grows u v x y → Grows u v (x * k) (y * k)
grow_times_right {u} {v} {x} {y} k g = subst₂ (λ x y. Grows u v x y) (mul_comm k x) (mul_comm k y) (grow_times k g)

grow_marked : (ms : List Bool) (x y : List ℕ) → length x ≡ length y
    → Grows (grown_from x y) (grown_to x y) (marked_product ms x) (marked_product ms y)
grow_marked [] x y e = grow_const 1 (from_below_to x y)
grow_marked (m ∷ ms) [] [] e = grow_const 1 (from_below_to [] [])
grow_marked (m ∷ ms) [] (b ∷ y) e = absurd (omega arith)
grow_marked (m ∷ ms) (a ∷ x) [] e = absurd (omega arith)
grow_marked (m ∷ ms) (a ∷ x) (b ∷ y) e =
    let rest = grow_marked ms x y (omega arith) in
    record { grows = cross _ _ _ _ _ _ _ _ (factor m a b) rest.grows }

-- one more mark
marked_at : List Bool → ℕ → List Bool
marked_at [] i = []
marked_at (m ∷ ms) zero = true ∷ ms
marked_at (m ∷ ms) (suc i) = m ∷ marked_at ms i

single : ℕ → List Bool
single zero = true ∷ []
single (suc i) = false ∷ single i

product_single : (x : List ℕ) (i : ℕ) → i < length x → marked_product (single i) x ≡ slice_index x i
unfolding single
product_single [] i less = absurd (omega arith)
product_single (a ∷ x) zero less = omega arith
product_single (a ∷ x) (suc i) less = let e = product_single x i (omega arith) in omega arith

product_more : (ms : List Bool) (x : List ℕ) (i : ℕ) → i < length x → get_or ms i true ≡ false
    → marked_product ms x * slice_index x i ≡ marked_product (marked_at ms i) x
unfolding marked_at
product_more [] x i less e = absurd (true≢false e)
product_more (m ∷ ms) [] i less e = absurd (omega arith)
product_more (m ∷ ms) (a ∷ x) zero less e = rw e (let h : 1 * marked_product ms x * a ≡ a * marked_product ms x =
    mul_comm _ a ∙ ap (λ n. a * n) (omega arith) in h)
product_more (m ∷ ms) (a ∷ x) (suc i) less e = mul_assoc _ _ _
    ∙ ap (λ n. (if m then a else 1) * n) (product_more ms x i (omega arith) e)

get_or-map : (f : ℕ → Bool) (xs : List ℕ) (i : ℕ) → i < length xs → get_or (map f xs) i true ≡ f (slice_index xs i)
get_or-map f [] i h = absurd (omega arith)
get_or-map f (x ∷ xs) zero h = refl
get_or-map f (x ∷ xs) (suc i) h = get_or-map f xs i (omega arith)

-- The selectivity of a predicate.

pub record IsSelectivityOf (preds : List Pred) (place i : ℕ) : Type 0 where
  pub there : i < length (selectivity_places preds)
  pub placed : slice_index (selectivity_places preds) i ≡ place
  pub counted : i < selectivity_count preds

selectivity_kept : (pred : Pred) (preds : List Pred) (place i : ℕ) → is_parameterised pred ≡ false
    → IsSelectivityOf preds place i → IsSelectivityOf (pred ∷ preds) place i
selectivity_kept pred preds place i e h = record {
  there = rw e h.there;
  placed = rw e h.placed;
  counted = rw e (let m = h.counted in omega arith);
}

selectivity_next : (pred : Pred) (preds : List Pred) (place i : ℕ) → is_parameterised pred ≡ true
    → IsSelectivityOf preds place i → IsSelectivityOf (pred ∷ preds) place (suc i)
selectivity_next pred preds place i e h = record {
  there = rw e (let m = h.there in omega arith);
  placed = rw e h.placed;
  counted = rw e (let m = h.counted in omega arith);
}

selectivity_after : (pred : Pred) (preds : List Pred) (place i : ℕ) (b : Bool) → is_parameterised pred ≡ b
    → IsSelectivityOf preds place i
    → IsSelectivityOf (pred ∷ preds) place ((if b then 1 else 0) + i)
selectivity_after pred preds place i true e h =
    subst (λ n. IsSelectivityOf (pred ∷ preds) place n) (omega arith) (selectivity_next pred preds place i e h)
selectivity_after pred preds place i false e h =
    subst (λ n. IsSelectivityOf (pred ∷ preds) place n) (omega arith) (selectivity_kept pred preds place i e h)

-- the selectivity of a parameterised predicate is one of its place
pub selectivity_of : (preds : List Pred) (j : ℕ) (at : ColRef) → option_map (λ p. p.at) (slice_get preds j) ≡ Some at
    → option_map_or is_parameterised (slice_get preds j) false ≡ true
    → IsSelectivityOf preds at.place (selectivity_count (take j preds))
selectivity_of [] j at found parameterised = absurd (true≢false (sym parameterised))
selectivity_of (pred ∷ preds) zero at found parameterised = record {
  there = rw parameterised (omega arith);
  placed = rw parameterised cc;
  counted = rw parameterised (omega arith);
}
selectivity_of (pred ∷ preds) (suc j) at found parameterised =
    selectivity_after pred preds at.place (selectivity_count (take j preds)) (is_parameterised pred) refl
    (selectivity_of preds j at found parameterised)

grow_rows : (x y : List ℕ) (n i : ℕ) (b : Bool) → length x ≡ length y → (b ≡ true → i < length x)
    → Grows (grown_from x y) (grown_to x y) (if b then slice_index x i else n) (if b then slice_index y i else n)
grow_rows x y n i false e within = grow_const n (from_below_to x y)
grow_rows x y n i true e within =
    let here : i < length x = within refl in
    subst₂ (λ a b. Grows (grown_from x y) (grown_to x y) a b) (product_single x i here)
    (product_single y i (omega arith)) (grow_marked (single i) x y e)

-- a product of selectivities, times one that isn't in it
grow_beside : (ms : List Bool) (x y : List ℕ) (n i : ℕ) (b : Bool) → length x ≡ length y → (b ≡ true → i < length x)
    → (b ≡ true → get_or ms i true ≡ false)
    → Grows (grown_from x y) (grown_to x y) (marked_product ms x * (if b then slice_index x i else n))
    (marked_product ms y * (if b then slice_index y i else n))
grow_beside ms x y n i false e within out = grow_times_right n (grow_marked ms x y e)
grow_beside ms x y n i true e within out =
    let here : i < length x = within refl in
    subst₂ (λ a b. Grows (grown_from x y) (grown_to x y) a b) (sym (product_more ms x i here (out refl)))
    (sym (product_more ms y i (omega arith) (out refl))) (grow_marked (marked_at ms i) x y e)

-- Cardinalities and accesses, at two vectors of one statement.

pub record AreVectors (q : Statement) (x y : List ℕ) : Type 0 where
  pub first : IsVectorOf q x
  pub one_length : length x ≡ length y

grow_card : (q : Statement) (s : Statistics) (x y : List ℕ) (set : ℕ) → AreVectors q x y
    → Grows (grown_from x y) (grown_to x y) (card_of q s x set) (card_of q s y set)
unfolding card_of
grow_card q s x y set e = grow_times (kappa q s set) (grow_marked _ x y e.one_length)

found_at : (q : Statement) (place column pred : ℕ) → option_map (λ p. p.at) (slice_get q.preds pred)
    ≡ Some (column_of place column) → option_map_or is_parameterised (slice_get q.preds pred) false ≡ true
    → IsSelectivityOf q.preds place (selectivity_count (take pred q.preds))
found_at q place column pred on e = selectivity_of q.preds pred (column_of place column) on e

found_within : (q : Statement) (x y : List ℕ) (place i : ℕ) → AreVectors q x y → IsSelectivityOf q.preds place i
    → i < length x
found_within q x y place i e h = let a = h.counted in let b = e.first in omega arith

grow_access : (q : Statement) (s : Statistics) (x y : List ℕ) (access : Access) → AreVectors q x y
    → IsValidAccess q s.indexed access
    → Grows (grown_from x y) (grown_to x y) (access_unit q s x access) (access_unit q s y access)
grow_access q s x y (Seq t) e v = grow_const _ (from_below_to x y)
grow_access q s x y (Full t c) e v = grow_const _ (from_below_to x y)
grow_access q s x y (Range t c j) e v =
    grow_sum (grow_const _ (from_below_to x y))
    (grow_times s.weights.fetch (grow_rows x y (slice_index s.matching j) (selectivity_count (take j q.preds))
    (option_map_or is_parameterised (slice_get q.preds j) false) e.one_length
    (λ h. found_within q x y t _ e (found_at q t c j v.2 h))))

spread : (k m c f s : ℕ) → k * m * c + f * k * (m * s) ≡ k * m * (c + f * s)
spread k m c f s = grind (arith, mul_assoc, mul_comm, mul_left_comm, mul-add)

outside : (q : Statement) (set place i : ℕ) → has set place ≡ false → IsSelectivityOf q.preds place i
    → get_or (map (has set) (selectivity_places q.preds)) i true ≡ false
outside q set place i out h = get_or-map (has set) (selectivity_places q.preds) i h.there ∙ ap (has set) h.placed ∙ out

-- for each row of a set, an access to a place that isn't in it
grow_scan : (q : Statement) (s : Statistics) (x y : List ℕ) (set : ℕ) (access : Access) → AreVectors q x y
    → IsValidAccess q s.indexed access → has set (place_of access) ≡ false
    → Grows (grown_from x y) (grown_to x y) (card_of q s x set * access_unit q s x access)
    (card_of q s y set * access_unit q s y access)
unfolding card_of
grow_scan q s x y set (Seq t) e v out = grow_times_right _ (grow_card q s x y set e)
grow_scan q s x y set (Full t c) e v out = grow_times_right _ (grow_card q s x y set e)
grow_scan q s x y set (Range t c j) e v out =
    let descent = s.weights.probe * digits (slice_index s.rows t) in
    let rate = s.weights.fetch in
    subst₂ (λ a b. Grows (grown_from x y) (grown_to x y) a b)
    (spread (kappa q s set) (selected_product q set x) descent rate (rows_met q s x j))
    (spread (kappa q s set) (selected_product q set y) descent rate (rows_met q s y j))
    (grow_sum (grow_times_right descent (grow_times (kappa q s set) (grow_marked _ x y e.one_length)))
    (grow_times (rate * kappa q s set) (grow_beside (map (has set) (selectivity_places q.preds)) x y
    (slice_index s.matching j) (selectivity_count (take j q.preds))
    (option_map_or is_parameterised (slice_get q.preds j) false) e.one_length
    (λ h. found_within q x y t _ e (found_at q t c j v.2 h))
    (λ h. outside q set t _ out (found_at q t c j v.2 h)))))

-- Steps, hash joins, plans and tops.

grow_step : (q : Statement) (s : Statistics) (x y : List ℕ) (set : ℕ) (step : StepKind) → AreVectors q x y
    → IsValidStep q s.indexed set step
    → Grows (grown_from x y) (grown_to x y) (step_cost q s x set step) (step_cost q s y set step)
grow_step q s x y set (Loop access) e v =
    grow_sum (grow_scan q s x y set access e v.0 v.1) (grow_times s.weights.out (grow_card q s x y _ e))
grow_step q s x y set (Probe t edge) e v =
    grow_sum (grow_times_right _ (grow_card q s x y set e)) (grow_times s.weights.out (grow_card q s x y _ e))

grow_join : (q : Statement) (s : Statistics) (x y : List ℕ) (left right : ℕ) → AreVectors q x y
    → Grows (grown_from x y) (grown_to x y) (join_cost q s x left right) (join_cost q s y left right)
grow_join q s x y left right e =
    grow_sum (grow_times s.weights.hash (grow_sum (grow_card q s x y left e) (grow_card q s x y right e)))
    (grow_times s.weights.out (grow_card q s x y (left + right) e))

grow_plan : (q : Statement) (s : Statistics) (x y : List ℕ) (plan : Tree) → AreVectors q x y
    → IsValidPlan q s.indexed plan
    → Grows (grown_from x y) (grown_to x y) (plan_cost q s x plan) (plan_cost q s y plan)
grow_plan q s x y (Base access) e v = grow_times COST_SCALE (grow_access q s x y access e v)
grow_plan q s x y (Join outer step) e v =
    grow_sum (grow_plan q s x y outer e v.0) (grow_step q s x y (places_of outer) step e v.1)
grow_plan q s x y (HashJoin outer inner edge) e v =
    grow_sum (grow_sum (grow_plan q s x y outer e v.0) (grow_plan q s x y inner e v.1))
    (grow_join q s x y (places_of outer) (places_of inner) e)
grow_plan q s x y (Sort outer) e v =
    grow_sum (grow_plan q s x y outer e v.0) (grow_times _ (grow_card q s x y (places_of outer) e))

grow_top : (q : Statement) (s : Statistics) (x y : List ℕ) (top : TopTree) → AreVectors q x y
    → IsValidTop q s.indexed top
    → Grows (grown_from x y) (grown_to x y) (top_cost q s x top) (top_cost q s y top)
grow_top q s x y (Rows plan) e v = grow_plan q s x y plan e v.plan
grow_top q s x y (SortedGroups plan) e v =
    grow_sum (grow_plan q s x y plan e v.plan) (grow_times _ (grow_card q s x y (places_of plan) e))
grow_top q s x y (HashGroups plan) e v =
    grow_sum (grow_plan q s x y plan e v.plan) (grow_times _ (grow_card q s x y (places_of plan) e))

pub top_grows_within : (q : Statement) (s : Statistics) (top : TopTree) (instance anchor : List ℕ)
    → IsValidTop q s.indexed top → IsVectorOf q instance → IsVectorOf q anchor
    → GrowsWithin instance anchor (top_cost q s instance top) (top_cost q s anchor top)
top_grows_within q s top instance anchor valid e f =
    let there : AreVectors q instance anchor = record { first = e; one_length = e ∙ sym f } in
    let back : AreVectors q anchor instance = record { first = f; one_length = f ∙ sym e } in
    record {
      grows = (grow_top q s instance anchor top there valid).grows;
      shrinks =
          (grow_top q s anchor instance top back valid).grows;
    }
