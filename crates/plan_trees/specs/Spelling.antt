-- The spelling of plans: no spaces, places by their aliases, numbers from 1.
use Rattle.std.specs.Prelude.{ℕ, ◌<◌, ◌≤◌, ◌+◌, ◌≡◌, max, List, [], ◌++◌, length, codes, slice_get}
use Rattle.std.specs.Option.{option_map_or}
use Rattle.std.specs.Fmt.{decimal}
use Rattle.row_values.specs.Names.{canonical_name}
use Rattle.row_values.specs.Statements.{Statement, IsColumn}
use Rattle.row_values.specs.declared.columns.Column.{Column}
use Rattle.row_values.specs.declared.statement.Place.{Place}
use Rattle.plan_trees.specs.declared.plans.Access.{Access}
use Rattle.plan_trees.specs.declared.plans.Access.TheVariants.{Seq, Range, Full}
use Rattle.plan_trees.specs.declared.plans.StepKind.{StepKind}
use Rattle.plan_trees.specs.declared.plans.StepKind.TheVariants.{Loop, Probe}
use Rattle.plan_trees.specs.PlanSpace.{column_of}
use Rattle.plan_trees.specs.Trees.{Tree, Base, Join, HashJoin, Sort, TopTree, Rows, SortedGroups, HashGroups}
use Rattle.plan_trees.specs.Trees.{plan_below}

-- What a spelling is made of.

abbrev pub alias_of : List Place → ℕ → List ℕ
alias_of places place = option_map_or (λ p. p.alias) (slice_get places place) []

abbrev pub columns_of : List Place → ℕ → List Column
columns_of places place = option_map_or (λ p. p.schema) (slice_get places place) []

abbrev pub name_of : List Column → ℕ → List ℕ
name_of columns column = option_map_or (λ c. c.name) (slice_get columns column) []

abbrev pub place_text : List Place → ℕ → List ℕ
place_text places place = canonical_name (alias_of places place)

abbrev pub column_text : List Place → ℕ → ℕ → List ℕ
column_text places place column = canonical_name (name_of (columns_of places place) column)

-- predicates and edges are counted from 1
abbrev pub number_text : ℕ → List ℕ
number_text number = decimal (number + 1)

-- The forms.

abbrev pub access_text : List Place → Access → List ℕ
access_text places (Seq place) = codes "seq(" ++ place_text places place ++ codes ")"
access_text places (Range place column pred) =
    codes "range(" ++ place_text places place ++ codes "." ++ column_text places place column ++ codes ","
    ++ number_text pred ++ codes ")"
access_text places (Full place column) =
    codes "full(" ++ place_text places place ++ codes "." ++ column_text places place column ++ codes ")"

-- the name of a step's form, and what stands behind the outer plan
abbrev pub step_name : StepKind → List ℕ
step_name (Loop access) = codes "loop("
step_name (Probe place edge) = codes "probe("

abbrev pub step_text : List Place → StepKind → List ℕ
step_text places (Loop access) = codes "," ++ access_text places access ++ codes ")"
step_text places (Probe place edge) = codes "," ++ place_text places place ++ codes "," ++ number_text edge ++ codes ")"

abbrev pub plan_text : List Place → Tree → List ℕ
plan_text places (Base access) = access_text places access
plan_text places (Join outer step) = step_name step ++ plan_text places outer ++ step_text places step
plan_text places (HashJoin outer inner edge) =
    codes "hash(" ++ plan_text places outer ++ codes "," ++ plan_text places inner ++ codes "," ++ number_text edge
    ++ codes ")"
plan_text places (Sort outer) = codes "sort(" ++ plan_text places outer ++ codes ")"

abbrev pub top_text : List Place → TopTree → List ℕ
top_text places (Rows plan) = codes "rows(" ++ plan_text places plan ++ codes ")"
top_text places (SortedGroups plan) = codes "sorted_groups(" ++ plan_text places plan ++ codes ")"
top_text places (HashGroups plan) = codes "hash_groups(" ++ plan_text places plan ++ codes ")"

-- Which plans have a spelling: all that they name is there, and they are nested at most 16 deep.

abbrev pub HasAccess : Statement → Access → Type 0
HasAccess q (Seq place) = place < length q.places
HasAccess q (Range place column pred) = IsColumn q.places (column_of place column) × (pred < length q.preds)
HasAccess q (Full place column) = IsColumn q.places (column_of place column)

abbrev pub HasStep : Statement → StepKind → Type 0
HasStep q (Loop access) = HasAccess q access
HasStep q (Probe place edge) = (place < length q.places) × (edge < length q.edges)

abbrev pub HasParts : Statement → Tree → Type 0
HasParts q (Base access) = HasAccess q access
HasParts q (Join outer step) = HasParts q outer × HasStep q step
HasParts q (HashJoin outer inner edge) = HasParts q outer × HasParts q inner × (edge < length q.edges)
HasParts q (Sort outer) = HasParts q outer

-- the plans on the longest way down
abbrev pub nesting : Tree → ℕ
nesting (Base access) = 1
nesting (Join outer step) = nesting outer + 1
nesting (HashJoin outer inner edge) = max (nesting outer) (nesting inner) + 1
nesting (Sort outer) = nesting outer + 1

pub record IsPlanText (q : Statement) (text : List ℕ) (top : TopTree) : Type 0 where
  pub parts : HasParts q (plan_below top)
  pub nested : nesting (plan_below top) ≤ 16
  pub spelled : text ≡ top_text q.places top
