-- When a row meets a predicate, and when two rows meet an edge.
--
-- A cell, a literal or an argument that isn't there meets nothing, and neither do values of two kinds.
use Rattle.std.specs.Prelude.{ℕ, List, [], ◌∷◌, slice_get, Bool, true, false, ◌&&◌, ◌||◌, ◌==◌, if◌then◌else◌, Option}
use Rattle.std.specs.Prelude.{Some, None}
use Rattle.std.specs.Option.{option_map_or}
use Rattle.std.specs.Ordering.{is_lt, is_le, is_gt, is_ge, is_eq}
use Rattle.std.specs.declared.cmp.Ordering.{Ordering}
use Rattle.row_values.specs.Orders.{compares}
use Rattle.row_values.specs.declared.values.Value.{Value}
use Rattle.row_values.specs.declared.statement.Operand.{Operand}
use Rattle.row_values.specs.declared.statement.Operand.TheVariants.{Literal, Param}
use Rattle.row_values.specs.declared.statement.Test.{Test}
use Rattle.row_values.specs.declared.statement.Test.TheVariants.{Lt, Le, Gt, Ge, Eq, Between, OneOf}
use Rattle.row_values.specs.declared.statement.Pred.{Pred}
use Rattle.row_values.specs.declared.statement.Edge.{Edge}

-- what an operand stands for: its value, or the argument of its number
abbrev pub operand_value : List Value → Operand → Option Value
operand_value args (Literal value) = Some value
operand_value args (Param number) = slice_get args number

-- whether a cell equals one of the operands
abbrev pub equals_one : List Value → Option Value → List Operand → Bool
equals_one args cell [] = false
equals_one args cell (a ∷ operands) = compares is_eq cell (operand_value args a) || equals_one args cell operands

-- whether a cell meets a test; BETWEEN takes both ends
abbrev pub meets : List Value → Test → Option Value → Bool
meets args (Lt a) cell = compares is_lt cell (operand_value args a)
meets args (Le a) cell = compares is_le cell (operand_value args a)
meets args (Gt a) cell = compares is_gt cell (operand_value args a)
meets args (Ge a) cell = compares is_ge cell (operand_value args a)
meets args (Eq a) cell = compares is_eq cell (operand_value args a)
meets args (Between a b) cell = compares is_ge cell (operand_value args a) && compares is_le cell (operand_value args b)
meets args (OneOf operands) cell = equals_one args cell operands

-- whether a row of the predicate's place meets the predicate
abbrev pub holds : List Value → Pred → List Value → Bool
holds args pred row = meets args pred.test (slice_get row pred.at.column)

-- whether a row of the edge's left place and one of its right place have equal cells
abbrev pub joins : Edge → List Value → List Value → Bool
joins edge left right = compares is_eq (slice_get left edge.left.column) (slice_get right edge.right.column)

-- whether a row meets each predicate on this place
abbrev pub row_passes : List Value → List Pred → ℕ → List Value → Bool
row_passes args [] place row = true
row_passes args (pred ∷ preds) place row =
    (if pred.at.place == place then holds args pred row else true) && row_passes args preds place row
