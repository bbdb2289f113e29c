-- The bound statement, and when its parts are sound.
use Rattle.std.specs.Prelude.{ℕ, ◌≡◌, ◌≢◌, ◌<◌, ◌≤◌, ◌+◌, ◌==◌, List, [], ◌∷◌, ◌++◌, length, map, All, slice_get, Bool}
use Rattle.std.specs.Prelude.{true, false, not, ◌&&◌, ◌||◌, if◌then◌else◌, IsTrue, IsSome, Option, Some, unwrap_or}
use Rattle.std.specs.Prelude.{option_and_then}
use Rattle.std.specs.List.{flat_map, list_any}
use Rattle.std.specs.Option.{option_map}
use Rattle.std.specs.Str.{bytes_eq}
use Rattle.row_values.specs.Operands.{AreOperands}
use Rattle.row_values.specs.Values.{kind_of}
use Rattle.row_values.specs.declared.statement.TheConstants.{PLACE_LIMIT, SELECTIVITY_LIMIT, CONDITION_LIMIT}
use Rattle.row_values.specs.declared.statement.TheConstants.{ITEM_LIMIT, KEY_LIMIT}
use Rattle.row_values.specs.declared.statement.Place.{Place}
use Rattle.row_values.specs.declared.statement.ColRef.{ColRef}
use Rattle.row_values.specs.declared.statement.Operand.{Operand}
use Rattle.row_values.specs.declared.statement.Operand.TheVariants.{Literal, Param}
use Rattle.row_values.specs.declared.statement.Test.{Test}
use Rattle.row_values.specs.declared.statement.Test.TheVariants.{Lt, Le, Gt, Ge, Eq, Between, OneOf}
use Rattle.row_values.specs.declared.statement.Pred.{Pred}
use Rattle.row_values.specs.declared.statement.Edge.{Edge}
use Rattle.row_values.specs.declared.statement.Item.{Item}
use Rattle.row_values.specs.declared.statement.Item.TheVariants as item
use Rattle.row_values.specs.declared.statement.OrderKey.{OrderKey}
use Rattle.row_values.specs.declared.values.Kind.{Kind}
use Rattle.row_values.specs.declared.values.Kind.TheVariants as kind

-- a bound statement
pub record Statement : Type 0 where
  pub places : List Place
  pub preds : List Pred
  pub edges : List Edge
  pub items : List Item
  pub groups : List ColRef
  pub order : List OrderKey

abbrev pub statement_with : List Place → List Pred → List Edge → List Item → List ColRef → List OrderKey → Statement
statement_with places preds edges items groups order =
    record { places = places; preds = preds; edges = edges; items = items; groups = groups; order = order }

-- the kind of a column, where the place and the column are there
abbrev pub kind_at : List Place → ColRef → Option Kind
kind_at places at =
    option_and_then (λ place. option_map (λ column. column.kind) (slice_get place.schema at.column))
    (slice_get places at.place)

-- a column that is there
abbrev pub IsColumn : List Place → ColRef → Type 0
IsColumn places at = IsSome (kind_at places at)

-- a literal is of the column's kind
abbrev pub IsOperand : Option Kind → Operand → Type 0
IsOperand left (Literal value) = left ≡ Some (kind_of value)
IsOperand left (Param number) = IsSome left

-- what a test compares its column with, in text order
abbrev pub operands_of : Test → List Operand
operands_of (Lt a) = a ∷ []
operands_of (Le a) = a ∷ []
operands_of (Gt a) = a ∷ []
operands_of (Ge a) = a ∷ []
operands_of (Eq a) = a ∷ []
operands_of (Between a b) = a ∷ b ∷ []
operands_of (OneOf operands) = operands

-- a test of a column of this kind has as many operands as one may have, each of that kind
abbrev pub IsTest : Option Kind → Test → Type 0
IsTest left test = AreOperands (operands_of test) × All (IsOperand left) (operands_of test)

-- a predicate is on a column that is there, against operands of that column's kind
abbrev pub IsPred : List Place → Pred → Type 0
IsPred places pred = IsTest (kind_at places pred.at) pred.test

-- an edge joins columns of one kind, of two different places
pub record IsEdge (places : List Place) (edge : Edge) : Type 0 where
  pub there : IsColumn places edge.left
  pub one_kind : kind_at places edge.left ≡ kind_at places edge.right
  pub two_places : edge.left.place ≢ edge.right.place

-- an item shows a column that is there, and SUM one of whole numbers
abbrev pub IsItem : List Place → Item → Type 0
IsItem places (item.Column at) = IsColumn places at
IsItem places item.CountAll = Unit {0}
IsItem places (item.Sum at) = kind_at places at ≡ Some kind.Int
IsItem places (item.Min at) = IsColumn places at
IsItem places (item.Max at) = IsColumn places at

abbrev pub is_parameter : Operand → Bool
is_parameter (Literal value) = false
is_parameter (Param number) = true

-- the numbers of the parameters of an operand, of a test, and of all predicates, in text order
abbrev pub operand_parameters : Operand → List ℕ
operand_parameters (Literal value) = []
operand_parameters (Param number) = number ∷ []

abbrev pub test_parameters : Test → List ℕ
test_parameters test = flat_map operand_parameters (operands_of test)

abbrev pub parameters_of : List Pred → List ℕ
parameters_of preds = flat_map (λ pred. test_parameters pred.test) preds

-- the numbers rise by one, from this one on
abbrev pub are_numbered : ℕ → List ℕ → Bool
are_numbered first [] = true
are_numbered first (number ∷ numbers) = number == first && are_numbered (first + 1) numbers

-- a predicate that some operand makes depend on the arguments
abbrev pub is_parameterised : Pred → Bool
is_parameterised pred = list_any is_parameter (operands_of pred.test)

abbrev pub selectivity_count : List Pred → ℕ
selectivity_count [] = 0
selectivity_count (pred ∷ preds) = (if is_parameterised pred then 1 else 0) + selectivity_count preds

-- for each parameter in text order, the kind of the column on its left
abbrev pub kinds_of : List Place → List Pred → List Kind
kinds_of places [] = []
kinds_of places (pred ∷ preds) =
    map (λ _. unwrap_or (kind_at places pred.at) kind.Int) (test_parameters pred.test) ++ kinds_of places preds

-- whether a place has this alias
abbrev pub is_alias_in : List ℕ → List Place → Bool
is_alias_in alias [] = false
is_alias_in alias (place ∷ places) = bytes_eq place.alias alias || is_alias_in alias places

-- whether no alias is empty and none stands twice
abbrev pub are_aliases : List Place → Bool
are_aliases [] = true
are_aliases (place ∷ places) = not (length place.alias == 0) && not (is_alias_in place.alias places)
    && are_aliases places

-- whether the column is among these
abbrev pub is_among : List ColRef → ColRef → Bool
is_among [] at = false
is_among (group ∷ groups) at = (group.place == at.place && group.column == at.column) || is_among groups at

-- an item that a group can show: an aggregate, or one of the GROUP BY columns
abbrev pub is_grouped_item : List ColRef → Item → Bool
is_grouped_item groups (item.Column at) = is_among groups at
is_grouped_item groups item.CountAll = true
is_grouped_item groups (item.Sum at) = true
is_grouped_item groups (item.Min at) = true
is_grouped_item groups (item.Max at) = true

-- an item that a single row can show: a column
abbrev pub is_column_item : Item → Bool
is_column_item (item.Column at) = true
is_column_item item.CountAll = false
is_column_item (item.Sum at) = false
is_column_item (item.Min at) = false
is_column_item (item.Max at) = false

-- With GROUP BY each item and each ORDER BY key is one of a group; without it each item is one of a row.
abbrev pub AreGrouped : List ColRef → List Item → List OrderKey → Type 0
AreGrouped [] items order = All (λ item. IsTrue (is_column_item item)) items
AreGrouped (group ∷ groups) items order =
    All (λ item. IsTrue (is_grouped_item (group ∷ groups) item)) items
    × All (λ key. IsTrue (is_among (group ∷ groups) key.at)) order

-- the parts of a statement go together and are within the limits
pub record IsSoundQuery (q : Statement) : Type 0 where
  pub some_place : 0 < length q.places
  pub few_places : length q.places ≤ PLACE_LIMIT
  pub aliases : IsTrue (are_aliases q.places)
  pub few_conditions : length q.preds + length q.edges ≤ CONDITION_LIMIT
  pub preds : All (IsPred q.places) q.preds
  pub few_selectivities : selectivity_count q.preds ≤ SELECTIVITY_LIMIT
  pub numbered : IsTrue (are_numbered 0 (parameters_of q.preds))
  pub edges : All (IsEdge q.places) q.edges
  pub some_item : 0 < length q.items
  pub few_items : length q.items ≤ ITEM_LIMIT
  pub items : All (IsItem q.places) q.items
  pub few_groups : length q.groups ≤ KEY_LIMIT
  pub groups : All (IsColumn q.places) q.groups
  pub few_keys : length q.order ≤ KEY_LIMIT
  pub order : All (λ key. IsColumn q.places key.at) q.order
  pub grouped : AreGrouped q.groups q.items q.order
