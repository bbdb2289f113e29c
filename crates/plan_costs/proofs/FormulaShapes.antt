-- The formula of a valid plan has a polynomial: no product shares a selectivity, and no coefficient is too large.
use Rattle.std.proofs.Common.{ℕ, suc, ◌≡◌, ◌≤◌, ◌<◌, ◌+◌, ◌==◌, inl, inr, Bool, true, false, ◌&&◌, List, [], ◌∷◌}
use Rattle.std.proofs.Common.{length, take, slice_get, slice_index, All, if◌then◌else◌, ap, sym, ◌∙◌, refl, subst}
use Rattle.std.proofs.Common.{arith, true≢false}
use Rattle.std.specs.Option.{option_map_or}
use Rattle.std.proofs.lemmas.Bool.{false_from_ne_true, or_cases, or_from}
use Rattle.std.proofs.lemmas.Bool.Decides.{nat_tests}
use Rattle.row_values.specs.Statements.{Statement, IsSoundQuery, is_parameterised, selectivity_count}
use Rattle.plan_trees.specs.declared.plans.Access.{Access}
use Rattle.plan_trees.specs.declared.plans.Access.TheVariants.{Seq, Range, Full}
use Rattle.plan_trees.specs.declared.plans.StepKind.{StepKind}
use Rattle.plan_trees.specs.declared.plans.StepKind.TheVariants.{Loop, Probe}
use Rattle.plan_trees.specs.PlaceSets.{has, one}
use Rattle.plan_trees.specs.PlanSpace.{IsValidAccess, IsValidStep, IsValidPlan, IsValidTop, column_of}
use Rattle.plan_trees.specs.Statistics.{Statistics, IsSoundStats, selectivity_places}
use Rattle.plan_trees.specs.Trees.{Tree, Base, Join, HashJoin, Sort, TopTree, Rows, SortedGroups, HashGroups, place_of}
use Rattle.plan_trees.specs.Trees.{place_entering, places_of}
use Rattle.plan_trees.proofs.SoundParts.{access_in_range}
use Rattle.cost_polynomials.specs.Polynomial.{HasLarge}
use Rattle.growth_checker.specs.Expression.{Formula, Constant, Selectivity, Plus, Times, mentions, expanded, value_at}
use Rattle.growth_checker.specs.Expression.{HasSelectivities}
use Rattle.growth_checker.proofs.Expansion.{large_value_at}
use Rattle.cost_model.specs.Cardinalities.{kappa}
use Rattle.cost_model.specs.Costs.{look_up_cost, edge_fan, top_cost}
use Rattle.plan_trees.specs.declared.scale.TheConstants.{COST_SCALE}
use Rattle.cost_model.proofs.CostBounds.{costs_fit}
use Rattle.cost_model.proofs.Growth.{IsSelectivityOf, selectivity_of}
use Rattle.cost_model.proofs.SoundNumbers.{places_counted}
use Rattle.plan_costs.specs.Formulas.{IsCostFormula, selected, card_formula, found_formula, unit_formula, run_formula}
use Rattle.plan_costs.specs.Formulas.{step_formula, join_formula, plan_formula, grouped_formula, top_formula}
use Rattle.plan_costs.proofs.FormulaParts.{kappa_some, scan_some, look_up_some, comparisons_some}
use Rattle.plan_costs.proofs.Ones.{ones, ones_counts, ones_sound}

-- Sums and products.

constant_shape : (count n : ℕ) → 1 ≤ n → IsCostFormula count (Constant n)
constant_shape count n h = record { sound = h; unshared = λ i. refl; within = λ i e. absurd (true≢false (sym e)) }

same_selectivity : (j i : ℕ) → (j == i) ≡ true → i ≡ j
same_selectivity j i e = grind (arith, nat_tests)

selectivity_shape : (count j : ℕ) → count ≤ 8 → j < count → IsCostFormula count (Selectivity j)
selectivity_shape count j few h = record {
  sound = omega arith;
  unshared = λ i. refl;
  within = λ i e. let same = same_selectivity j i e in omega arith;
}

sum_shape : (count : ℕ) (f g : Formula) → IsCostFormula count f → IsCostFormula count g → IsCostFormula count (Plus f g)
sum_shape count f g h k = record {
  sound = (h.sound, k.sound);
  unshared = λ i. or_from _ _ (h.unshared i) (k.unshared i);
  within = λ i e. elim (or_cases (mentions f i) (mentions g i) e) [ inl x ↦ h.within i x | inr y ↦ k.within i y ];
}

never_both : (x y : Bool) → (x ≡ true → y ≡ false) → (x && y) ≡ false
never_both true y h = h refl
never_both false y h = refl

product_shape : (count : ℕ) (f g : Formula) → ((i : ℕ) → mentions f i ≡ true → mentions g i ≡ false)
    → IsCostFormula count f → IsCostFormula count g → IsCostFormula count (Times f g)
product_shape count f g apart h k = record {
  sound = (h.sound, k.sound);
  unshared = λ i. or_from _ _ (or_from _ _ (h.unshared i) (k.unshared i))
      (never_both (mentions f i) (mentions g i) (apart i));
  within = λ i e. elim (or_cases (mentions f i) (mentions g i) e) [ inl x ↦ h.within i x | inr y ↦ k.within i y ];
}

weighed_shape : (count n : ℕ) (f : Formula) → 1 ≤ n → IsCostFormula count f → IsCostFormula count (Times (Constant n) f)
weighed_shape count n f some h = product_shape count (Constant n) f (λ i e. absurd (true≢false (sym e)))
    (constant_shape count n some) h

-- Cardinalities.

-- a formula of selectivities below this one
record IsBelow (count next : ℕ) (f : Formula) : Type 0 where
  shape : IsCostFormula count f
  below : (i : ℕ) → mentions f i ≡ true → i < next

one_more_shape : (b : Bool) (count next : ℕ) (f : Formula) → count ≤ 8 → next < count → IsBelow count next f
    → IsBelow count (next + 1) (if b then Times f (Selectivity next) else f)
one_more_shape false count next f few less h =
    record { shape = h.shape; below = λ i e. let m = h.below i e in omega arith }
one_more_shape true count next f few less h = record {
  shape = product_shape count f (Selectivity next)
      (λ i e. let m = h.below i e in false_from_ne_true (next == i)
      (λ same. let n = same_selectivity next i same in absurd (omega arith)))
      h.shape (selectivity_shape count next few less);
  below = λ i e. elim (or_cases (mentions f i) (next == i) e)
      [ inl x ↦ (let m = h.below i x in omega arith) | inr y ↦ (let n = same_selectivity next i y in omega arith) ];
}

selected_shape : (count set next : ℕ) (f : Formula) (places : List ℕ) → count ≤ 8 → next + length places ≤ count
    → IsBelow count next f → IsCostFormula count (selected set next f places)
selected_shape count set next f [] few room h = h.shape
selected_shape count set next f (place ∷ places) few room h =
    selected_shape count set (next + 1) (if has set place then Times f (Selectivity next) else f) places few
    (omega arith)
    (one_more_shape (has set place) count next f few (omega arith) h)

one_more_on : (b : Bool) (next : ℕ) (f : Formula) (P : ℕ → Type 0) → ((i : ℕ) → mentions f i ≡ true → P i)
    → (b ≡ true → P next) → (i : ℕ) → mentions (if b then Times f (Selectivity next) else f) i ≡ true → P i
one_more_on false next f P h k i e = h i e
one_more_on true next f P h k i e = elim (or_cases (mentions f i) (next == i) e)
    [ inl x ↦ h i x | inr y ↦ subst P (sym (same_selectivity next i y)) (k refl) ]

-- what holds of the selectivities of the formula, and of each that is on a place of the set
selected_on : (set next : ℕ) (f : Formula) (places : List ℕ) (P : ℕ → Type 0) → ((i : ℕ) → mentions f i ≡ true → P i)
    → ((k : ℕ) → k < length places → has set (slice_index places k) ≡ true → P (next + k))
    → (i : ℕ) → mentions (selected set next f places) i ≡ true → P i
selected_on set next f [] P h k i e = h i e
selected_on set next f (place ∷ places) P h k i e =
    selected_on set (next + 1) (if has set place then Times f (Selectivity next) else f) places P
    (one_more_on (has set place) next f P h
    (λ on. let same : next + 0 ≡ next = omega arith in subst P same (k 0 (omega arith) on)))
    (λ n less on. let same : next + suc n ≡ next + 1 + n = omega arith in subst P same (k (suc n) (omega arith) on))
    i e

-- a cardinality has selectivities on its places alone
card_on : (q : Statement) (s : Statistics) (set i : ℕ) → mentions (card_formula q s set) i ≡ true
    → has set (slice_index (selectivity_places q.preds) i) ≡ true
card_on q s set i e =
    selected_on set 0 (Constant (kappa q s set)) (selectivity_places q.preds)
    (λ i. has set (slice_index (selectivity_places q.preds) i) ≡ true)
    (λ j none. absurd (true≢false (sym none)))
    (λ k less on. let same : k ≡ 0 + k = omega arith in
    subst (λ n. has set (slice_index (selectivity_places q.preds) n) ≡ true) same on)
    i e

-- what is known of a statement and its statistics
record AreSound (q : Statement) (s : Statistics) : Type 0 where
  query : IsSoundQuery q
  stats : IsSoundStats q s

card_shape : (q : Statement) (s : Statistics) (set : ℕ) → AreSound q s
    → IsCostFormula (selectivity_count q.preds) (card_formula q s set)
card_shape q s set k =
    let each = places_counted q.preds in
    selected_shape (selectivity_count q.preds) set 0 (Constant (kappa q s set))
    (selectivity_places q.preds) k.query.few_selectivities (omega arith)
    (record {
      shape = constant_shape _ _ (kappa_some q s set k.query k.stats);
      below =
          λ i e. absurd (true≢false (sym e));
    })

weighed_card_shape : (q : Statement) (s : Statistics) (weight set : ℕ) → AreSound q s → 1 ≤ weight
    → IsCostFormula (selectivity_count q.preds) (Times (Constant weight) (card_formula q s set))
weighed_card_shape q s weight set k some = weighed_shape _ weight (card_formula q s set) some (card_shape q s set k)

-- Accesses.

found_shape : (q : Statement) (s : Statistics) (place i : ℕ) → AreSound q s → place < length q.places
    → i < selectivity_count q.preds → IsCostFormula (selectivity_count q.preds) (found_formula s place i)
found_shape q s place i k there less =
    sum_shape _ _ _ (constant_shape _ _ (look_up_some q s place 0 k.stats there))
    (weighed_shape _ s.weights.fetch (Selectivity i) k.stats.weights.fetch.low
    (selectivity_shape _ i k.query.few_selectivities less))

range_shape : (q : Statement) (s : Statistics) (place i m : ℕ) (b : Bool) → AreSound q s → place < length q.places
    → (b ≡ true → IsSelectivityOf q.preds place i)
    → IsCostFormula (selectivity_count q.preds)
    (if b then found_formula s place i else Constant (look_up_cost s place m))
range_shape q s place i m false k there h = constant_shape _ _ (look_up_some q s place m k.stats there)
range_shape q s place i m true k there h = found_shape q s place i k there (h refl).counted

range_on : (q : Statement) (s : Statistics) (place i m j : ℕ) (b : Bool) → (b ≡ true → IsSelectivityOf q.preds place i)
    → mentions (if b then found_formula s place i else Constant (look_up_cost s place m)) j ≡ true
    → slice_index (selectivity_places q.preds) j ≡ place
range_on q s place i m j false h e = absurd (true≢false (sym e))
range_on q s place i m j true h e = let same : j ≡ i = same_selectivity i j e in
    ap (slice_index (selectivity_places q.preds)) same ∙ (h refl).placed

-- the selectivity of a range's predicate
of_range : (q : Statement) (s : Statistics) (place column pred : ℕ)
    → IsValidAccess q s.indexed (Range place column pred)
    → option_map_or is_parameterised (slice_get q.preds pred) false ≡ true
    → IsSelectivityOf q.preds place (selectivity_count (take pred q.preds))
of_range q s place column pred valid e = selectivity_of q.preds pred (column_of place column) valid.2 e

unit_shape : (q : Statement) (s : Statistics) (access : Access) → AreSound q s → IsValidAccess q s.indexed access
    → IsCostFormula (selectivity_count q.preds) (unit_formula q s access)
unit_shape q s (Seq place) k valid = constant_shape _ _ (scan_some q s place k.stats valid)
unit_shape q s (Range place column pred) k valid =
    range_shape q s place _ _ (option_map_or is_parameterised (slice_get q.preds pred) false) k
    (access_in_range q s.indexed (Range place column pred) valid) (of_range q s place column pred valid)
unit_shape q s (Full place column) k valid = constant_shape _ _
    (look_up_some q s place _ k.stats (access_in_range q s.indexed (Full place column) valid))

-- an access has selectivities on its own place alone
unit_on : (q : Statement) (s : Statistics) (access : Access) (i : ℕ) → IsValidAccess q s.indexed access
    → mentions (unit_formula q s access) i ≡ true → slice_index (selectivity_places q.preds) i ≡ place_of access
unit_on q s (Seq place) i valid e = absurd (true≢false (sym e))
unit_on q s (Range place column pred) i valid e =
    range_on q s place _ _ i (option_map_or is_parameterised (slice_get q.preds pred) false)
    (of_range q s place column pred valid) e
unit_on q s (Full place column) i valid e = absurd (true≢false (sym e))

-- Steps, hash joins and sorts.

run_shape : (q : Statement) (s : Statistics) (set : ℕ) (step : StepKind) → AreSound q s
    → IsValidStep q s.indexed set step → IsCostFormula (selectivity_count q.preds) (run_formula q s step)
run_shape q s set (Loop access) k valid = unit_shape q s access k valid.0
run_shape q s set (Probe place edge) k valid =
    constant_shape _ _ (look_up_some q s place (edge_fan q s place edge) k.stats valid.0)

-- the place that enters isn't in the set
run_apart : (q : Statement) (s : Statistics) (set : ℕ) (step : StepKind) → IsValidStep q s.indexed set step → (i : ℕ)
    → mentions (card_formula q s set) i ≡ true → mentions (run_formula q s step) i ≡ false
run_apart q s set (Loop access) valid i e =
    false_from_ne_true (mentions (unit_formula q s access) i)
    (λ f. true≢false (sym (ap (has set) (sym (unit_on q s access i valid.0 f)) ∙ card_on q s set i e) ∙ valid.1))
run_apart q s set (Probe place edge) valid i e = refl

step_shape : (q : Statement) (s : Statistics) (set : ℕ) (step : StepKind) → AreSound q s
    → IsValidStep q s.indexed set step → IsCostFormula (selectivity_count q.preds) (step_formula q s set step)
step_shape q s set step k valid =
    sum_shape _ _ _
    (product_shape _ (card_formula q s set) (run_formula q s step) (run_apart q s set step valid)
    (card_shape q s set k) (run_shape q s set step k valid))
    (weighed_card_shape q s s.weights.out (set + one (place_entering step)) k k.stats.weights.out.low)

join_shape : (q : Statement) (s : Statistics) (left right : ℕ) → AreSound q s
    → IsCostFormula (selectivity_count q.preds) (join_formula q s left right)
join_shape q s left right k =
    sum_shape _ _ _
    (weighed_shape _ s.weights.hash (Plus (card_formula q s left) (card_formula q s right)) k.stats.weights.hash.low
    (sum_shape _ _ _ (card_shape q s left k) (card_shape q s right k)))
    (weighed_card_shape q s s.weights.out (left + right) k k.stats.weights.out.low)

-- Plans.

plan_shape : (q : Statement) (s : Statistics) (plan : Tree) → AreSound q s → IsValidPlan q s.indexed plan
    → IsCostFormula (selectivity_count q.preds) (plan_formula q s plan)
plan_shape q s (Base access) k valid = weighed_shape _ COST_SCALE (unit_formula q s access) (omega arith)
    (unit_shape q s access k valid)
plan_shape q s (Join outer step) k valid = sum_shape _ _ _ (plan_shape q s outer k valid.0)
    (step_shape q s (places_of outer) step k valid.1)
plan_shape q s (HashJoin outer inner edge) k valid =
    sum_shape _ _ _ (sum_shape _ _ _ (plan_shape q s outer k valid.0) (plan_shape q s inner k valid.1))
    (join_shape q s (places_of outer) (places_of inner) k)
plan_shape q s (Sort outer) k valid = sum_shape _ _ _ (plan_shape q s outer k valid.0)
    (weighed_card_shape q s _ (places_of outer) k (comparisons_some q s (places_of outer) k.stats))

grouped_shape : (q : Statement) (s : Statistics) (weight : ℕ) (plan : Tree) → AreSound q s → 1 ≤ weight
    → IsValidPlan q s.indexed plan → IsCostFormula (selectivity_count q.preds) (grouped_formula q s weight plan)
grouped_shape q s weight plan k some valid = sum_shape _ _ _ (plan_shape q s plan k valid)
    (weighed_card_shape q s weight (places_of plan) k some)

top_shape_of : (q : Statement) (s : Statistics) (top : TopTree) → AreSound q s → IsValidTop q s.indexed top
    → IsCostFormula (selectivity_count q.preds) (top_formula q s top)
top_shape_of q s (Rows plan) k valid = plan_shape q s plan k valid.plan
top_shape_of q s (SortedGroups plan) k valid = grouped_shape q s s.weights.row plan k k.stats.weights.row.low valid.plan
top_shape_of q s (HashGroups plan) k valid = grouped_shape q s s.weights.hash plan k k.stats.weights.hash.low valid.plan

pub top_shape : (q : Statement) (s : Statistics) (top : TopTree) → IsSoundQuery q → IsSoundStats q s
    → IsValidTop q s.indexed top → IsCostFormula (selectivity_count q.preds) (top_formula q s top)
top_shape q s top h k valid = top_shape_of q s top (record { query = h; stats = k }) valid

-- The polynomial.

-- a vector with a number of at least 1 for each selectivity serves the expression
pub counts_serve : (q : Statement) (vector : List ℕ) (f : Formula) → IsCostFormula (selectivity_count q.preds) f
    → length vector ≡ selectivity_count q.preds → All (λ count. 1 ≤ count) vector → HasSelectivities f vector
counts_serve q vector f h each some = λ i e. let less = h.within i e in some i 0 (omega arith)

-- a coefficient that doesn't fit would be at most the cost where all selectivities are 1
pub never_large : (q : Statement) (s : Statistics) (top : TopTree) (f : Formula) → IsSoundQuery q → IsSoundStats q s
    → IsValidTop q s.indexed top → IsCostFormula (selectivity_count q.preds) f
    → value_at f (ones q) ≡ top_cost q s (ones q) top → HasLarge (expanded f) → ⊥
never_large q s top f h k valid shape e large =
    let v = ones_sound q s h k in
    let big = large_value_at f (ones q) shape.unshared
    (counts_serve q (ones q) f shape v.one_each (ones_counts q)) large in
    let small = ((costs_fit q s (ones q) h k v).tops top valid).high in
    omega arith
