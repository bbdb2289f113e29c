-- How lists of all that is valid grow.
use Rattle.std.proofs.Common.{ℕ, ◌≡◌, ◌<◌, ◌+◌, ◌⊎◌, inl, inr, List, [], ◌∷◌, ◌++◌, length, slice_get, slice_index_or}
use Rattle.std.proofs.Common.{Some, sym, ◌∙◌, subst, arith}
use Rattle.std.specs.List.{Contains}
use Rattle.std.proofs.lemmas.Bool.{cases_lt}
use Rattle.std.proofs.lemmas.List.Elements.{Contains-append_left, Contains-push, Contains-push_cases}
use Rattle.std.proofs.lemmas.Option.{slice_get-get_or}
use Rattle.std.specs.Option.{option_map}
use Rattle.row_values.specs.Statements.{Statement, IsColumn}
use Rattle.row_values.specs.declared.statement.Pred.{Pred}
use Rattle.row_values.specs.declared.statement.ColRef.{ColRef}
use Rattle.std.proofs.Common.{Option, None}
use Rattle.plan_trees.specs.declared.plans.Access.{Access}
use Rattle.plan_trees.specs.declared.plans.Access.TheVariants.{Seq, Range, Full}
use Rattle.plan_trees.specs.declared.plans.StepKind.{StepKind}
use Rattle.plan_trees.specs.declared.plans.StepKind.TheVariants.{Loop, Probe}
use Rattle.plan_trees.specs.PlanSpace.{column_of}
use Rattle.plan_trees.specs.Trees.{place_of}
use Rattle.plan_trees.specs.Lists.{GainsAll, IsListOf, IsAccessOf, IsStepInto, IsRangeBefore, IsRangeBy, IsFullBefore}
use Rattle.plan_trees.specs.Lists.{IsLoopAmong, IsProbeBefore}
use Rattle.plan_trees.proofs.SoundParts.{edge_there, pred_there}

-- Gains in general.

-- where nothing is wanted, the list stays
pub gains_nothing : {A : Type 0} (Valid Wanted : A → Type 0) (list : List A)
    → ((item : A) → Wanted item → Valid item → Contains list item) → GainsAll Valid Wanted list list
gains_nothing Valid Wanted list h = record { kept = λ item k. k; taken = h; only = λ item k. inl k }

only_pushed : {A : Type 0} (Valid : A → Type 0) (item other : A) (list : List A) → Valid item → Contains list other
    ⊎ (item ≡ other) → Contains list other ⊎ Valid other
only_pushed Valid item other list v (inl k) = inl k
only_pushed Valid item other list v (inr e) = inr (subst Valid e v)

-- a valid item is pushed
pub gains_pushed : {A : Type 0} (Valid : A → Type 0) (item : A) (before after : List A) → Valid item
    → after ≡ before ++ item ∷ [] → GainsAll Valid (λ x. x ≡ item) before after
gains_pushed Valid item before after v e =
    subst (λ xs. GainsAll Valid (λ x. x ≡ item) before xs) (sym e)
    (record {
      kept = λ x k. Contains-append_left before (item ∷ []) x k;
      taken = λ x same k. subst (λ y. Contains (before ++ item ∷ []) y) (sym same) (Contains-push before item);
      only = λ x k. only_pushed Valid item x before v (Contains-push_cases before item x k);
    })

then_taken : {A : Type 0} (Valid First Second : A → Type 0) (before middle after : List A)
    → GainsAll Valid First before middle → GainsAll Valid Second middle after → (item : A) → First item ⊎ Second item
    → Valid item → Contains after item
then_taken Valid First Second before middle after f g item (inl w) v = g.kept item (f.taken item w v)
then_taken Valid First Second before middle after f g item (inr w) v = g.taken item w v

then_only : {A : Type 0} (Valid First : A → Type 0) (before middle : List A) → GainsAll Valid First before middle
    → (item : A) → Contains middle item ⊎ Valid item → Contains before item ⊎ Valid item
then_only Valid First before middle f item (inl k) = f.only item k
then_only Valid First before middle f item (inr v) = inr v

-- one gain after another
pub gains_then : {A : Type 0} (Valid First Second Wanted : A → Type 0) (before middle after : List A)
    → GainsAll Valid First before middle → GainsAll Valid Second middle after
    → ((item : A) → Wanted item → First item ⊎ Second item) → GainsAll Valid Wanted before after
gains_then Valid First Second Wanted before middle after f g h = record {
  kept = λ item k. g.kept item (f.kept item k);
  taken = λ item w v. then_taken Valid First Second before middle after f g item (h item w) v;
  only = λ item k. then_only Valid First before middle f item (g.only item k);
}

contains_none : {A : Type 0} (P : Type 0) (item : A) → Contains {X = A} [] item → P
contains_none P item k = let less = k.1 in absurd (omega arith)

listed_only : {A : Type 0} (P : A → Type 0) (item : A) → Contains {X = A} [] item ⊎ P item → P item
listed_only P item (inl k) = contains_none (P item) item k
listed_only P item (inr v) = v

-- what gains all from nothing is the list of all
pub listed : {A : Type 0} (P Wanted : A → Type 0) (before list : List A) → before ≡ [] → GainsAll P Wanted before list
    → ((item : A) → P item → Wanted item) → IsListOf P list
listed P Wanted before list e g h =
    λ item. (
      λ k. listed_only P item (subst (λ xs. Contains xs item ⊎ P item) e (g.only item k)),
      λ v. g.taken item (h item v) v,
    )

-- Numbers below one more.

pub below_next : (k n : ℕ) → k < n + 1 → (k < n) ⊎ (k ≡ n)
below_next k n h = grind (arith, cases_lt)

-- Ranges and full index scans.

range_next_by : (place t pred number : ℕ) → t ≡ place → (pred < number) ⊎ (pred ≡ number)
    → ((t ≡ place) × (pred < number)) ⊎ ((t ≡ place) × (pred ≡ number))
range_next_by place t pred number e (inl h) = inl (e, h)
range_next_by place t pred number e (inr h) = inr (e, h)

pub range_next : (place number : ℕ) (access : Access) → IsRangeBefore place (number + 1) access
    → IsRangeBefore place number access ⊎ IsRangeBy place number access
range_next place number (Seq t) h = absurd h
range_next place number (Range t column pred) h = range_next_by place t pred number h.0 (below_next pred number h.1)
range_next place number (Full t column) h = absurd h

pub no_range : (place : ℕ) (access : Access) → IsRangeBefore place 0 access → ⊥
no_range place (Seq t) h = h
no_range place (Range t column pred) h = let less = h.1 in absurd (omega arith)
no_range place (Full t column) h = h

full_next_by : (place t column number : ℕ) → t ≡ place → (column < number) ⊎ (column ≡ number)
    → ((t ≡ place) × (column < number)) ⊎ (Full t column ≡ Full place number)
full_next_by place t column number e (inl h) = inl (e, h)
full_next_by place t column number e (inr h) = inr (cc)

pub full_next : (place number : ℕ) (access : Access) → IsFullBefore place (number + 1) access
    → IsFullBefore place number access ⊎ (access ≡ Full place number)
full_next place number (Seq t) h = absurd h
full_next place number (Range t column pred) h = absurd h
full_next place number (Full t column) h = full_next_by place t column number h.0 (below_next column number h.1)

pub no_full : (place : ℕ) (access : Access) → IsFullBefore place 0 access → ⊥
no_full place (Seq t) h = h
no_full place (Range t column pred) h = h
no_full place (Full t column) h = let less = h.1 in absurd (omega arith)

-- the predicate of a valid range is on its column
pred_at : (o : Option Pred) (at : ColRef) (pred : Pred) → o ≡ Some pred → option_map (λ p. p.at) o ≡ Some at
    → pred.at ≡ at
pred_at None at pred e h = absurd (cc)
pred_at (Some x) at pred e h = cc

-- the range by a predicate that is there is the one over the predicate's column
pub range_by : (q : Statement) (indexed : List ℕ) (place number : ℕ) (pred : Pred) (access : Access)
    → slice_get q.preds number ≡ Some pred → IsRangeBy place number access → IsAccessOf q indexed place access
    → access ≡ Range place pred.at.column number
range_by q indexed place number pred (Seq t) e h v = absurd h
range_by q indexed place number pred (Range t column j) e h v =
    let there : slice_get q.preds j ≡ Some pred = rw h.1 e in
    let same : pred.at ≡ column_of t column = pred_at (slice_get q.preds j) (column_of t column) pred there v.0.2 in
    let at : pred.at.column ≡ column = cc in
    cc
range_by q indexed place number pred (Full t column) e h v = absurd h

no_pred : (o : Option Pred) (at : ColRef) → o ≡ None → option_map (λ p. p.at) o ≡ Some at → ⊥
no_pred o at e h = cc

-- by a predicate that isn't there no range is valid
pub no_range_by : (q : Statement) (indexed : List ℕ) (place number : ℕ) (access : Access) → slice_get q.preds number
    ≡ None → IsRangeBy place number access → IsAccessOf q indexed place access → ⊥
no_range_by q indexed place number (Seq t) e h v = h
no_range_by q indexed place number (Range t column j) e h v =
    no_pred (slice_get q.preds j) (column_of t column) (let there : slice_get q.preds j ≡ None =
    rw h.1 e in there) v.0.2
no_range_by q indexed place number (Full t column) e h v = h

-- each valid access is one of the three kinds
pub access_kinds : (q : Statement) (indexed : List ℕ) (place columns : ℕ)
    → ((column : ℕ) → IsColumn q.places (column_of place column) → column < columns)
    → (access : Access) → IsAccessOf q indexed place access
    → ((access ≡ Seq place) ⊎ IsRangeBefore place (length q.preds) access) ⊎ IsFullBefore place columns access
access_kinds q indexed place columns h (Seq t) v = inl (inl (let e : t ≡ place = v.1 in cc))
access_kinds q indexed place columns h (Range t column j) v =
    inl (inr (v.1, pred_there q.preds j (column_of t column) v.0.2))
access_kinds q indexed place columns h (Full t column) v =
    inr (v.1, h column (subst (λ p. IsColumn q.places (column_of p column)) v.1 v.0.0))

-- Steps.

pub no_loop : (accesses : List Access) (step : StepKind) → IsLoopAmong accesses 0 step → ⊥
no_loop accesses (Loop access) h = let less = h.1 in absurd (omega arith)
no_loop accesses (Probe t edge) h = h

loop_next_by : (accesses : List Access) (number k : ℕ) (here access : Access) → slice_get accesses number ≡ Some here
    → slice_get accesses k ≡ Some access → (k < number) ⊎ (k ≡ number)
    → ((k : ℕ) × (k < number) × (slice_get accesses k ≡ Some access)) ⊎ (Loop access ≡ Loop here)
loop_next_by accesses number k here access e f (inl h) = inl (k, h, f)
loop_next_by accesses number k here access e f (inr h) =
    let there : slice_get accesses number ≡ Some access = rw (← h) f in
    inr (cc)

pub loop_next : (accesses : List Access) (number : ℕ) (here : Access) (step : StepKind) → slice_get accesses number
    ≡ Some here → IsLoopAmong accesses (number + 1) step → IsLoopAmong accesses number step ⊎ (step ≡ Loop here)
loop_next accesses number here (Loop access) e h =
    loop_next_by accesses number h.0 here access e h.2 (below_next h.0 number h.1)
loop_next accesses number here (Probe t edge) e h = absurd h

-- the loops over one more of the accesses of a place
pub loops_more : (q : Statement) (indexed : List ℕ) (set place : ℕ) (accesses : List Access) (number : ℕ)
    (here : Access) (before middle after : List StepKind) → IsListOf (IsAccessOf q indexed place) accesses
    → number < length accesses
    → slice_get accesses number ≡ Some here
    → GainsAll (IsStepInto q indexed set place) (IsLoopAmong accesses number) before middle
    → GainsAll (IsStepInto q indexed set (place_of here)) (λ step. step ≡ Loop here) middle after
    → GainsAll (IsStepInto q indexed set place) (IsLoopAmong accesses (number + 1)) before after
loops_more q indexed set place accesses number here before middle after h less e f g =
    let found : slice_get accesses number ≡ Some (slice_index_or accesses number here) =
    slice_get-get_or accesses number here less in
    let same : slice_index_or accesses number here ≡ here = cc in
    let there = (h here).0 (number, less, same) in
    gains_then _ _ _ _ _ _ _ f (subst (λ p. GainsAll (IsStepInto q indexed set p) (λ step. step
    ≡ Loop here) middle after) there.1 g) (λ step. loop_next accesses number here step e)

probe_next_by : (place t edge number : ℕ) → t ≡ place → (edge < number) ⊎ (edge ≡ number)
    → ((t ≡ place) × (edge < number)) ⊎ (Probe t edge ≡ Probe place number)
probe_next_by place t edge number e (inl h) = inl (e, h)
probe_next_by place t edge number e (inr h) = inr (cc)

pub probe_next : (place number : ℕ) (step : StepKind) → IsProbeBefore place (number + 1) step
    → IsProbeBefore place number step ⊎ (step ≡ Probe place number)
probe_next place number (Loop access) h = absurd h
probe_next place number (Probe t edge) h = probe_next_by place t edge number h.0 (below_next edge number h.1)

pub no_probe : (place : ℕ) (step : StepKind) → IsProbeBefore place 0 step → ⊥
no_probe place (Loop access) h = h
no_probe place (Probe t edge) h = let less = h.1 in absurd (omega arith)

-- each valid step is a nested loop over a valid access, or a look-up by an edge
pub step_kinds : (q : Statement) (indexed : List ℕ) (set place : ℕ) (accesses : List Access)
    → IsListOf (IsAccessOf q indexed place) accesses
    → (step : StepKind) → IsStepInto q indexed set place step → IsLoopAmong accesses (length accesses) step
    ⊎ IsProbeBefore place (length q.edges) step
step_kinds q indexed set place accesses h (Loop access) v =
    let k = (h access).1 (v.0.0, v.1) in
    inl (k.0, k.1, slice_get-get_or accesses k.0 access k.1 ∙ (let e = k.2 in cc))
step_kinds q indexed set place accesses h (Probe t edge) v = inr (v.1, edge_there _ q.edges edge v.0.2)

-- the edge of a valid hash join is there
pub no_edge : (Fits : ℕ → Type 0) (count edge : ℕ) → ((k : ℕ) → k < count → Fits k → ⊥) → edge < count → Fits edge → ⊥
no_edge Fits count edge h less fits = h edge less fits
