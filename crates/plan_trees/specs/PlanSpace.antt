-- The plan space: which access paths, steps, plans and tops are valid for a statement with these indexes.
use Rattle.std.specs.Prelude.{ℕ, ◌≡◌, ◌<◌, ◌==◌, Bool, true, false, not, ◌&&◌, ◌||◌, IsTrue, List, [], ◌∷◌, length, map}
use Rattle.std.specs.Prelude.{Some, slice_get, IsSomeAnd, if◌then◌else◌}
use Rattle.std.specs.Option.{option_map}
use Rattle.row_values.specs.Statements.{Statement, IsColumn}
use Rattle.row_values.specs.declared.statement.ColRef.{ColRef}
use Rattle.row_values.specs.declared.statement.Edge.{Edge}
use Rattle.row_values.specs.declared.statement.OrderKey.{OrderKey}
use Rattle.plan_trees.specs.declared.plans.Access.{Access}
use Rattle.plan_trees.specs.declared.plans.Access.TheVariants.{Seq, Range, Full}
use Rattle.plan_trees.specs.declared.plans.StepKind.{StepKind}
use Rattle.plan_trees.specs.declared.plans.StepKind.TheVariants.{Loop, Probe}
use Rattle.plan_trees.specs.Indexes.{has_index}
use Rattle.plan_trees.specs.PlaceSets.{has, all_below, are_apart}
use Rattle.plan_trees.specs.Trees.{Tree, Base, Join, HashJoin, Sort, TopTree, Rows, SortedGroups, HashGroups, place_of}
use Rattle.plan_trees.specs.Trees.{places_of, plan_below}

abbrev pub column_of : ℕ → ℕ → ColRef
column_of place column = record { place = place; column = column }

-- Wanted order.

abbrev pub ascending : ColRef → OrderKey
ascending at = record { at = at; descending = false }

abbrev pub is_grouped : Statement → Bool
is_grouped q = not (length q.groups == 0)

-- the GROUP BY columns, ascending, where there are any; else the ORDER BY keys
abbrev pub wanted_order : Statement → List OrderKey
wanted_order q = if is_grouped q then map ascending q.groups else q.order

abbrev pub wants_order : Statement → Bool
wants_order q = not (length (wanted_order q) == 0)

-- this column ascending is the one key
abbrev pub is_only_key : List OrderKey → ColRef → Bool
is_only_key [] at = false
is_only_key (key ∷ []) at = key.at.place == at.place && key.at.column == at.column && not key.descending
is_only_key (key ∷ other ∷ others) at = false

-- the set has the place of each key
abbrev pub has_all_keys : ℕ → List OrderKey → Bool
has_all_keys set [] = true
has_all_keys set (key ∷ keys) = has set key.at.place && has_all_keys set keys

-- Accesses, steps and hash joins.

-- an access of a place that is there; an index is on the column, and a range's predicate is on that column
abbrev pub IsValidAccess : Statement → List ℕ → Access → Type 0
IsValidAccess q indexed (Seq place) = place < length q.places
IsValidAccess q indexed (Range place column pred) =
    IsColumn q.places (column_of place column) × IsTrue (has_index indexed place column)
    × (option_map (λ p. p.at) (slice_get q.preds pred) ≡ Some (column_of place column))
IsValidAccess q indexed (Full place column) =
    IsColumn q.places (column_of place column) × IsTrue (has_index indexed place column)

-- the edge joins a place of the set to this place
abbrev pub joins_to : ℕ → ℕ → Edge → Bool
joins_to set place edge =
    (edge.right.place == place && has set edge.left.place) || (edge.left.place == place && has set edge.right.place)

-- the column of this place in the edge
abbrev pub column_in : ℕ → Edge → ℕ
column_in place edge = if edge.right.place == place then edge.right.column else edge.left.column

-- the step takes a place into the set that isn't in it
abbrev pub IsValidStep : Statement → List ℕ → ℕ → StepKind → Type 0
IsValidStep q indexed set (Loop access) = IsValidAccess q indexed access × (has set (place_of access) ≡ false)
IsValidStep q indexed set (Probe place edge) =
    (place < length q.places) × (has set place ≡ false)
    × IsSomeAnd (slice_get q.edges edge)
    (λ e. IsTrue (joins_to set place e) × IsTrue (has_index indexed place (column_in place e)))

-- the edge connects the two sets: it joins a place of the one to a place of the other
abbrev pub connects : ℕ → ℕ → Edge → Bool
connects left right edge =
    (has left edge.left.place && has right edge.right.place) || (has left edge.right.place && has right edge.left.place)

-- a hash join takes two sets together that are apart, on an edge that connects them
abbrev pub IsValidHashJoin : Statement → ℕ → ℕ → ℕ → Type 0
IsValidHashJoin q left right edge =
    IsTrue (are_apart left right) × IsSomeAnd (slice_get q.edges edge) (λ e. IsTrue (connects left right e))

-- Plans.

-- an index on the one wanted column gives its order
abbrev pub is_sorted_access : Statement → Access → Bool
is_sorted_access q (Seq place) = false
is_sorted_access q (Range place column pred) = is_only_key (wanted_order q) (column_of place column)
is_sorted_access q (Full place column) = is_only_key (wanted_order q) (column_of place column)

-- the rows come in the wanted order, of which there is one: steps and hash joins keep the order of the outer side
abbrev pub is_sorted_plan : Statement → Tree → Bool
is_sorted_plan q (Base access) = is_sorted_access q access
is_sorted_plan q (Join outer step) = is_sorted_plan q outer
is_sorted_plan q (HashJoin outer inner edge) = is_sorted_plan q outer
is_sorted_plan q (Sort outer) = wants_order q

abbrev pub IsSortedPlan : Statement → Tree → Type 0
IsSortedPlan q plan = IsTrue (is_sorted_plan q plan)

-- only what isn't sorted yet is sorted, and only where the wanted order can be seen
abbrev pub IsValidPlan : Statement → List ℕ → Tree → Type 0
IsValidPlan q indexed (Base access) = IsValidAccess q indexed access
IsValidPlan q indexed (Join outer step) = IsValidPlan q indexed outer × IsValidStep q indexed (places_of outer) step
IsValidPlan q indexed (HashJoin outer inner edge) =
    IsValidPlan q indexed outer × IsValidPlan q indexed inner
    × IsValidHashJoin q (places_of outer) (places_of inner) edge
IsValidPlan q indexed (Sort outer) =
    IsValidPlan q indexed outer × IsTrue (wants_order q) × IsTrue (has_all_keys (places_of outer) (wanted_order q))
    × (is_sorted_plan q outer ≡ false)

-- Tops.

-- the top suits the statement: rows come in the wanted order, if there is one; sorted groups want sorted rows
abbrev pub SuitsStatement : Statement → TopTree → Type 0
SuitsStatement q (Rows plan) = (is_grouped q ≡ false) × (IsTrue (wants_order q) → IsSortedPlan q plan)
SuitsStatement q (SortedGroups plan) = (is_grouped q ≡ true) × IsSortedPlan q plan
SuitsStatement q (HashGroups plan) = is_grouped q ≡ true

-- a valid plan of all places, under a top that suits the statement
pub record IsValidTop (q : Statement) (indexed : List ℕ) (top : TopTree) : Type 0 where
  pub plan : IsValidPlan q indexed (plan_below top)
  pub whole : places_of (plan_below top) ≡ all_below (length q.places)
  pub suits : SuitsStatement q top
