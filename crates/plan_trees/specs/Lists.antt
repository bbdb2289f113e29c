-- Lists of all that is valid: the accesses of a place, and the steps that take a place into a set.
use Rattle.std.specs.Prelude.{ℕ, ◌≡◌, ◌<◌, ◌↔◌, ◌⊎◌, List, slice_get, Some}
use Rattle.std.specs.List.{Contains}
use Rattle.row_values.specs.Statements.{Statement}
use Rattle.plan_trees.specs.declared.plans.Access.{Access}
use Rattle.plan_trees.specs.declared.plans.Access.TheVariants.{Seq, Range, Full}
use Rattle.plan_trees.specs.declared.plans.StepKind.{StepKind}
use Rattle.plan_trees.specs.declared.plans.StepKind.TheVariants.{Loop, Probe}
use Rattle.plan_trees.specs.PlanSpace.{IsValidAccess, IsValidStep}
use Rattle.plan_trees.specs.Trees.{place_of, place_entering}

-- all that this holds of is in the list, and nothing else
abbrev pub IsListOf : {A : Type 0} → (A → Type 0) → List A → Type 0
IsListOf P list = (item : _) → (Contains list item ↔ P item)

-- a valid access of this place
abbrev pub IsAccessOf : Statement → List ℕ → ℕ → Access → Type 0
IsAccessOf q indexed place access = IsValidAccess q indexed access × (place_of access ≡ place)

-- a valid step over this set of places that takes in this place
abbrev pub IsStepInto : Statement → List ℕ → ℕ → ℕ → StepKind → Type 0
IsStepInto q indexed set place step = IsValidStep q indexed set step × (place_entering step ≡ place)

-- the list gains all that is wanted and valid, loses nothing, and gains nothing that isn't valid
pub record GainsAll {A : Type 0} (Valid Wanted : A → Type 0) (before after : List A) : Type 0 where
  pub kept : (item : A) → Contains before item → Contains after item
  pub taken : (item : A) → Wanted item → Valid item → Contains after item
  pub only : (item : A) → Contains after item → Contains before item ⊎ Valid item

-- a range over the place by a predicate before this one
abbrev pub IsRangeBefore : ℕ → ℕ → Access → Type 0
IsRangeBefore place number (Seq t) = ⊥
IsRangeBefore place number (Range t column pred) = (t ≡ place) × (pred < number)
IsRangeBefore place number (Full t column) = ⊥

abbrev pub IsRangeBy : ℕ → ℕ → Access → Type 0
IsRangeBy place number (Seq t) = ⊥
IsRangeBy place number (Range t column pred) = (t ≡ place) × (pred ≡ number)
IsRangeBy place number (Full t column) = ⊥

-- all rows of the place in the order of a column before this one
abbrev pub IsFullBefore : ℕ → ℕ → Access → Type 0
IsFullBefore place number (Seq t) = ⊥
IsFullBefore place number (Range t column pred) = ⊥
IsFullBefore place number (Full t column) = (t ≡ place) × (column < number)

-- a nested loop over one of the first so many accesses
abbrev pub IsLoopAmong : List Access → ℕ → StepKind → Type 0
IsLoopAmong accesses count (Loop access) = (k : ℕ) × (k < count) × (slice_get accesses k ≡ Some access)
IsLoopAmong accesses count (Probe t edge) = ⊥

-- a look-up in the place by an edge before this one
abbrev pub IsProbeBefore : ℕ → ℕ → StepKind → Type 0
IsProbeBefore place number (Loop access) = ⊥
IsProbeBefore place number (Probe t edge) = (t ≡ place) × (edge < number)
