-- Valid tops can be searched, since their plans are nested at most ten deep; so there is a least cost.
use Rattle.std.proofs.Common.{ℕ, zero, suc, ◌≡◌, ◌≤◌, ◌<◌, ◌⊎◌, inl, inr, true, false, List, length, slice_get, Option}
use Rattle.std.proofs.Common.{Some, None, IsSome, IsSomeAnd, option_and_then, ap, refl, arith}
use Rattle.std.specs.Option.{option_map, option_map_or}
use Rattle.std.proofs.lemmas.Option.{slice_get_within}
use Rattle.row_values.specs.Statements.{Statement, IsSoundQuery, IsColumn, kind_at}
use Rattle.row_values.specs.declared.columns.Column.{Column}
use Rattle.row_values.specs.declared.statement.ColRef.{ColRef}
use Rattle.row_values.specs.declared.statement.Place.{Place}
use Rattle.plan_trees.specs.Indexes.{has_index}
use Rattle.plan_trees.specs.PlaceSets.{has, all_below, are_apart}
use Rattle.plan_trees.specs.PlanSpace.{IsValidAccess, IsValidStep, IsValidHashJoin, IsValidPlan, IsValidTop}
use Rattle.plan_trees.specs.PlanSpace.{SuitsStatement, column_in, column_of, has_all_keys, is_grouped, is_sorted_plan}
use Rattle.plan_trees.specs.PlanSpace.{connects, joins_to, wanted_order, wants_order}
use Rattle.plan_trees.specs.Spelling.{nesting}
use Rattle.plan_trees.specs.Statistics.{Statistics}
use Rattle.plan_trees.specs.Trees.{Tree, Base, Join, HashJoin, Sort, TopTree, Rows, SortedGroups, HashGroups, place_of}
use Rattle.plan_trees.specs.Trees.{places_of, plan_below}
use Rattle.plan_trees.specs.declared.plans.Access.{Access}
use Rattle.plan_trees.specs.declared.plans.Access.TheVariants.{Seq, Range, Full}
use Rattle.plan_trees.specs.declared.plans.StepKind.{StepKind}
use Rattle.plan_trees.specs.declared.plans.StepKind.TheVariants.{Loop, Probe}
use Rattle.plan_trees.proofs.SoundParts.{column_in_range, edge_there, pred_there}
use Rattle.plan_trees.proofs.ValidPlans.{nested, some_nested}
use Rattle.cost_model.specs.Costs.{top_cost}
use Rattle.cost_model.specs.Laws.{HasLeastCost}
use Rattle.cost_model.proofs.Searches.{Decided, Searchable, IsMadeFrom, Outcome, decided_as, decided_both}
use Rattle.cost_model.proofs.Searches.{decided_three, decided_four, decided_implies, decided_bool, decided_less}
use Rattle.cost_model.proofs.Searches.{decided_same, search_among, search_either, search_made, search_none}
use Rattle.cost_model.proofs.Searches.{search_numbers, search_pairs}
use Rattle.cost_model.proofs.SomeTop.{some_top}

-- Validity can be decided.

decided_some : {A : Type 0} (o : Option A) → Decided (IsSome o)
decided_some (Some x) = inl refl
decided_some None = inr (λ h. absurd (cc))

same_at : (place column there entry : ℕ) → place ≡ there → column ≡ entry → Some (column_of place column)
    ≡ Some (column_of there entry)
same_at place column there entry e f = rw (e, f) refl

decided_at : (o : Option ColRef) (at : ColRef) → Decided (o ≡ Some at)
decided_at None at = inr (λ h. absurd (cc))
decided_at (Some x) at =
    decided_as (λ p. same_at x.place x.column at.place at.column p.0 p.1) (λ e. (
      let same : x ≡ at =
          cc in ap (λ (a : ColRef). a.place) same,
      let same : x ≡ at = cc in ap (λ (a : ColRef). a.column) same,
    ))
    (decided_both (decided_same x.place at.place) (decided_same x.column at.column))

decided_some_and : {A : Type 0} (P : A → Type 0) (o : Option A) → ((a : A) → Decided (P a)) → Decided (IsSomeAnd o P)
decided_some_and P (Some x) d = d x
decided_some_and P None d = inr (λ h. h)

decided_column : (places : List Place) (at : ColRef) → Decided (IsColumn places at)
decided_column places at = decided_some (kind_at places at)

decided_access : (q : Statement) (indexed : List ℕ) (access : Access) → Decided (IsValidAccess q indexed access)
decided_access q indexed (Seq t) = decided_less t (length q.places)
decided_access q indexed (Range t c j) =
    decided_three (decided_column q.places (column_of t c)) (decided_bool (has_index indexed t c) true)
    (decided_at (option_map (λ p. p.at) (slice_get q.preds j)) (column_of t c))
decided_access q indexed (Full t c) =
    decided_both (decided_column q.places (column_of t c)) (decided_bool (has_index indexed t c) true)

decided_step : (q : Statement) (indexed : List ℕ) (set : ℕ) (step : StepKind) → Decided (IsValidStep q indexed set step)
decided_step q indexed set (Loop access) =
    decided_both (decided_access q indexed access) (decided_bool (has set (place_of access)) false)
decided_step q indexed set (Probe t edge) =
    decided_three (decided_less t (length q.places)) (decided_bool (has set t) false)
    (decided_some_and _ (slice_get q.edges edge) (λ e. decided_both (decided_bool (joins_to set t e) true)
    (decided_bool (has_index indexed t (column_in t e)) true)))

decided_hash_join : (q : Statement) (left right edge : ℕ) → Decided (IsValidHashJoin q left right edge)
decided_hash_join q left right edge =
    decided_both (decided_bool (are_apart left right) true) (decided_some_and _ (slice_get q.edges edge)
    (λ e. decided_bool (connects left right e) true))

decided_plan : (q : Statement) (indexed : List ℕ) (plan : Tree) → Decided (IsValidPlan q indexed plan)
decided_plan q indexed (Base access) = decided_access q indexed access
decided_plan q indexed (Join outer step) =
    decided_both (decided_plan q indexed outer) (decided_step q indexed (places_of outer) step)
decided_plan q indexed (HashJoin outer inner edge) =
    decided_three (decided_plan q indexed outer) (decided_plan q indexed inner)
    (decided_hash_join q (places_of outer) (places_of inner) edge)
decided_plan q indexed (Sort outer) =
    decided_four (decided_plan q indexed outer) (decided_bool (wants_order q) true)
    (decided_bool (has_all_keys (places_of outer) (wanted_order q)) true)
    (decided_bool (is_sorted_plan q outer) false)

decided_suits : (q : Statement) (top : TopTree) → Decided (SuitsStatement q top)
decided_suits q (Rows plan) =
    decided_both (decided_bool (is_grouped q) false) (decided_implies (decided_bool (wants_order q) true)
    (decided_bool (is_sorted_plan q plan) true))
decided_suits q (SortedGroups plan) =
    decided_both (decided_bool (is_grouped q) true) (decided_bool (is_sorted_plan q plan) true)
decided_suits q (HashGroups plan) = decided_bool (is_grouped q) true

decided_top : (q : Statement) (indexed : List ℕ) (top : TopTree) → Decided (IsValidTop q indexed top)
decided_top q indexed top =
    decided_as (λ p. record { plan = p.0; whole = p.1; suits = p.2 }) (λ v. (v.plan, v.whole, v.suits))
    (decided_three (decided_plan q indexed (plan_below top)) (decided_same (places_of (plan_below top))
    (all_below (length q.places))) (decided_suits q top))

-- Accesses.

columns_at : List Place → ℕ → ℕ
columns_at places place = option_map_or (λ p. length p.schema) (slice_get places place) 0

column_below : (columns : List Column) (column : ℕ) (o : Option Column) → slice_get columns column ≡ o
    → IsSome (option_map (λ c. c.kind) o) → column < length columns
column_below columns column None e h = absurd (cc)
column_below columns column (Some c) e h = slice_get_within columns column c e

column_counted_by : (column : ℕ) (o : Option Place)
    → IsSome (option_and_then (λ p. option_map (λ c. c.kind) (slice_get p.schema column)) o)
    → column < option_map_or (λ p. length p.schema) o 0
column_counted_by column None h = absurd (cc)
column_counted_by column (Some p) h = column_below p.schema column (slice_get p.schema column) refl h

column_counted : (places : List Place) (place column : ℕ) → IsColumn places (column_of place column)
    → column < columns_at places place
unfolding columns_at
column_counted places place column h = column_counted_by column (slice_get places place) h

full_of : ℕ × ℕ → Access
full_of p = Full p.0 p.1

range_of : (ℕ × ℕ) × ℕ → Access
range_of p = Range p.0.0 p.0.1 p.1

IsColumnPair : Statement → ℕ × ℕ → Type 0
IsColumnPair q p = (p.0 < length q.places) × (p.1 < columns_at q.places p.0)

IsRangeTriple : Statement → (ℕ × ℕ) × ℕ → Type 0
IsRangeTriple q p = IsColumnPair q p.0 × (p.1 < length q.preds)

search_columns : (q : Statement) → Searchable (ℕ × ℕ) (IsColumnPair q)
unfolding IsColumnPair
search_columns q =
    search_pairs ℕ ℕ (λ t. t < length q.places) (λ t c. c < columns_at q.places t) (search_numbers (length q.places))
    (λ t. search_numbers (columns_at q.places t))

search_ranges : (q : Statement) → Searchable ((ℕ × ℕ) × ℕ) (IsRangeTriple q)
unfolding IsRangeTriple
search_ranges q = search_pairs (ℕ × ℕ) ℕ (IsColumnPair q) (λ p j. j < length q.preds) (search_columns q)
    (λ p. search_numbers (length q.preds))

IsSomeAccess : Statement → Access → Type 0
IsSomeAccess q access = IsMadeFrom ℕ Access (λ t. t < length q.places) Seq access
    ⊎ (IsMadeFrom (ℕ × ℕ) Access (IsColumnPair q) full_of access
    ⊎ IsMadeFrom ((ℕ × ℕ) × ℕ) Access (IsRangeTriple q) range_of access)

some_access : (q : Statement) (indexed : List ℕ) (access : Access) → IsValidAccess q indexed access
    → IsSomeAccess q access
unfolding IsSomeAccess IsColumnPair IsRangeTriple full_of range_of
some_access q indexed (Seq t) v = inl (t, v, refl)
some_access q indexed (Full t c) v =
    inr (inl ((t, c), (column_in_range q.places (column_of t c) v.0, column_counted q.places t c v.0), refl))
some_access q indexed (Range t c j) v =
    inr (inr (
      ((t, c), j),
      (
        (column_in_range q.places (column_of t c) v.0, column_counted q.places t c v.0),
        pred_there q.preds j (column_of t c) v.2,
      ),
      refl,
    ))

search_accesses : (q : Statement) (indexed : List ℕ) → Searchable Access (IsValidAccess q indexed)
unfolding IsSomeAccess
search_accesses q indexed =
    search_among Access (IsSomeAccess q) (IsValidAccess q indexed)
    (search_either Access _ _ (search_made ℕ Access _ Seq (search_numbers (length q.places)))
    (search_either Access _ _ (search_made (ℕ × ℕ) Access _ full_of (search_columns q)) (search_made ((ℕ × ℕ)
    × ℕ) Access _ range_of (search_ranges q))))
    (some_access q indexed) (decided_access q indexed)

-- Steps.

probe_of : ℕ × ℕ → StepKind
probe_of p = Probe p.0 p.1

IsSomeStep : Statement → List ℕ → StepKind → Type 0
IsSomeStep q indexed step =
    IsMadeFrom Access StepKind (IsValidAccess q indexed) Loop step
    ⊎ IsMadeFrom (ℕ × ℕ) StepKind (λ p. (p.0 < length q.places) × (p.1 < length q.edges)) probe_of step

some_step : (q : Statement) (indexed : List ℕ) (set : ℕ) (step : StepKind) → IsValidStep q indexed set step
    → IsSomeStep q indexed step
unfolding IsSomeStep probe_of
some_step q indexed set (Loop access) v = inl (access, v.0, refl)
some_step q indexed set (Probe t edge) v = inr ((t, edge), (v.0, edge_there _ q.edges edge v.2), refl)

search_steps : (q : Statement) (indexed : List ℕ) (set : ℕ) → Searchable StepKind (IsValidStep q indexed set)
unfolding IsSomeStep
search_steps q indexed set =
    search_among StepKind (IsSomeStep q indexed) (IsValidStep q indexed set)
    (search_either StepKind _ _ (search_made Access StepKind _ Loop (search_accesses q indexed))
    (search_made (ℕ × ℕ) StepKind _ probe_of (search_pairs ℕ ℕ (λ t. t < length q.places) (λ t e. e < length q.edges)
    (search_numbers (length q.places)) (λ t. search_numbers (length q.edges)))))
    (some_step q indexed set) (decided_step q indexed set)

-- Edges of a hash join.

search_edges : (q : Statement) (left right : ℕ) → Searchable ℕ (IsValidHashJoin q left right)
search_edges q left right =
    search_among ℕ (λ edge. edge < length q.edges) (IsValidHashJoin q left right) (search_numbers (length q.edges))
    (λ edge v. edge_there _ q.edges edge v.1) (decided_hash_join q left right)

-- Plans of at most so many nested.

IsPlanWithin : Statement → List ℕ → ℕ → Tree → Type 0
IsPlanWithin q indexed most plan = IsValidPlan q indexed plan × (nesting plan ≤ most)

join_of : Tree × StepKind → Tree
join_of p = Join p.0 p.1

hash_join_of : (Tree × Tree) × ℕ → Tree
hash_join_of p = HashJoin p.0.0 p.0.1 p.1

IsTwoWithin : Statement → List ℕ → ℕ → Tree × Tree → Type 0
IsTwoWithin q indexed most p = IsPlanWithin q indexed most p.0 × IsPlanWithin q indexed most p.1

IsSomePlan : Statement → List ℕ → ℕ → Tree → Type 0
IsSomePlan q indexed most plan =
    IsMadeFrom Access Tree (IsValidAccess q indexed) Base plan
    ⊎ (IsMadeFrom (Tree × StepKind) Tree (λ p. IsPlanWithin q indexed most p.0
    × IsValidStep q indexed (places_of p.0) p.1) join_of plan
    ⊎ (IsMadeFrom ((Tree × Tree) × ℕ) Tree (λ p. IsTwoWithin q indexed most p.0
    × IsValidHashJoin q (places_of p.0.0) (places_of p.0.1) p.1) hash_join_of plan
    ⊎ IsMadeFrom Tree Tree (IsPlanWithin q indexed most) Sort plan))

some_plan : (q : Statement) (indexed : List ℕ) (most : ℕ) (plan : Tree) → IsPlanWithin q indexed (suc most) plan
    → IsSomePlan q indexed most plan
unfolding IsSomePlan IsPlanWithin IsTwoWithin join_of hash_join_of
some_plan q indexed most (Base access) v = inl (access, v.0, refl)
some_plan q indexed most (Join outer step) v = let low =
    v.1 in inr (inl ((outer, step), ((v.0.0, omega arith), v.0.1), refl))
some_plan q indexed most (HashJoin outer inner edge) v = let low =
    v.1 in inr (inr (inl (((outer, inner), edge), (((v.0.0, omega arith), (v.0.1, omega arith)), v.0.2), refl)))
some_plan q indexed most (Sort outer) v = let low = v.1 in inr (inr (inr (outer, (v.0.0, omega arith), refl)))

search_two : (q : Statement) (indexed : List ℕ) (most : ℕ) → Searchable Tree (IsPlanWithin q indexed most)
    → Searchable (Tree × Tree) (IsTwoWithin q indexed most)
unfolding IsTwoWithin
search_two q indexed most search =
    search_pairs Tree Tree (IsPlanWithin q indexed most) (λ outer inner. IsPlanWithin q indexed most inner) search
    (λ outer. search)

less_or_same : (a b : ℕ) → Decided (a < suc b) → Decided (a ≤ b)
less_or_same a b d = decided_as (λ h. omega arith) (λ h. omega arith) d

search_plans_within : (q : Statement) (indexed : List ℕ) (most : ℕ) → Searchable Tree (IsPlanWithin q indexed most)
unfolding IsSomePlan IsPlanWithin
search_plans_within q indexed zero = search_none Tree (IsPlanWithin q indexed zero) (λ plan v. let some =
    some_nested plan in let few = v.1 in omega arith)
search_plans_within q indexed (suc most) =
    search_among Tree (IsSomePlan q indexed most) (IsPlanWithin q indexed (suc most))
    (search_either Tree _ _ (search_made Access Tree _ Base (search_accesses q indexed))
    (search_either Tree _ _ (search_made (Tree
    × StepKind) Tree _ join_of (search_pairs Tree StepKind (IsPlanWithin q indexed most)
    (λ p step. IsValidStep q indexed (places_of p) step) (search_plans_within q indexed most)
    (λ p. search_steps q indexed (places_of p))))
    (search_either Tree _ _ (search_made ((Tree × Tree) × ℕ) Tree _ hash_join_of (search_pairs (Tree
    × Tree) ℕ (IsTwoWithin q indexed most) (λ p edge. IsValidHashJoin q (places_of p.0) (places_of p.1) edge)
    (search_two q indexed most (search_plans_within q indexed most))
    (λ p. search_edges q (places_of p.0) (places_of p.1))))
    (search_made Tree Tree _ Sort (search_plans_within q indexed most)))))
    (some_plan q indexed most) (λ plan. decided_both (decided_plan q indexed plan)
    (less_or_same (nesting plan) (suc most) (decided_less (nesting plan) (suc (suc most)))))

pub search_plans : (q : Statement) (indexed : List ℕ) → length q.places ≤ 5 → Searchable Tree (IsValidPlan q indexed)
unfolding IsPlanWithin
search_plans q indexed few =
    search_among Tree (IsPlanWithin q indexed 10) (IsValidPlan q indexed) (search_plans_within q indexed 10)
    (λ plan v. (v, nested q indexed plan few v)) (decided_plan q indexed)

-- Tops.

IsSomeTop : Statement → List ℕ → TopTree → Type 0
IsSomeTop q indexed top = IsMadeFrom Tree TopTree (IsValidPlan q indexed) Rows top
    ⊎ (IsMadeFrom Tree TopTree (IsValidPlan q indexed) SortedGroups top
    ⊎ IsMadeFrom Tree TopTree (IsValidPlan q indexed) HashGroups top)

top_among : (q : Statement) (indexed : List ℕ) (top : TopTree) → IsValidTop q indexed top → IsSomeTop q indexed top
unfolding IsSomeTop
top_among q indexed (Rows plan) v = inl (plan, v.plan, refl)
top_among q indexed (SortedGroups plan) v = inr (inl (plan, v.plan, refl))
top_among q indexed (HashGroups plan) v = inr (inr (plan, v.plan, refl))

search_tops : (q : Statement) (indexed : List ℕ) → length q.places ≤ 5 → Searchable TopTree (IsValidTop q indexed)
unfolding IsSomeTop
search_tops q indexed few =
    search_among TopTree (IsSomeTop q indexed) (IsValidTop q indexed)
    (search_either TopTree _ _ (search_made Tree TopTree _ Rows (search_plans q indexed few))
    (search_either TopTree _ _ (search_made Tree TopTree _ SortedGroups (search_plans q indexed few))
    (search_made Tree TopTree _ HashGroups (search_plans q indexed few))))
    (top_among q indexed) (decided_top q indexed)

-- The least cost.

least_of : (q : Statement) (s : Statistics) (vector : List ℕ) → IsSoundQuery q
    → Outcome TopTree (IsValidTop q s.indexed) (λ top. Some (top_cost q s vector top)) → HasLeastCost q s vector
least_of q s vector h (inl x) = record {
  least = x.least;
  is_least = record {
    reached = record { top = x.item; valid = x.valid; costs = let e = x.costs in cc };
    below_all = λ top v. x.below_all top (top_cost q s vector top) v refl;
  };
}
least_of q s vector h (inr none) = let t = some_top q s.indexed h in let e = none t.top t.valid in absurd (cc)

pub least_exists : (q : Statement) (s : Statistics) (vector : List ℕ) → IsSoundQuery q → HasLeastCost q s vector
least_exists q s vector h =
    least_of q s vector h (search_tops q s.indexed h.few_places (λ top. Some (top_cost q s vector top)))
