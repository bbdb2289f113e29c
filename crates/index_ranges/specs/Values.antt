-- The values of an IN, one after the other.
use Rattle.std.specs.Prelude.{ℕ, List, [], ◌∷◌, Bool, ◌&&◌, ◌||◌, not, filter, length, Option, None, is_none, if◌then◌else◌}
use Rattle.std.specs.Ordering.{is_lt}
use Rattle.row_values.specs.Orders.{cell_order}
use Rattle.row_values.specs.declared.statement.Operand.{Operand}
use Rattle.row_values.specs.declared.values.Value.{Value}
use Rattle.statement_meaning.specs.Conditions.{equals_one, operand_value}

-- whether one cell is below another; one that isn't there is below each that is
abbrev pub is_below : Option Value → Option Value → Bool
is_below a b = is_lt (cell_order a b)

-- of two values the lesser, if the first is above this one
abbrev pub better : Option Value → Option Value → Option Value → Option Value
better last value next =
    if is_below last value && (is_none next || is_below value next) then value else next

-- the better of this value and the least of the operands' values above the last one
abbrev pub next_from : List Value → Option Value → Option Value → List Operand → Option Value
next_from args last next [] = next
next_from args last next (a ∷ operands) = next_from args last (better last (operand_value args a) next) operands

-- the least of the operands' values above this one, if any
abbrev pub next_above : List Value → Option Value → List Operand → Option Value
next_above args last operands = next_from args last None operands

-- whether a cell equals an operand and isn't above the last value
abbrev pub is_taken : List Value → Option Value → List Operand → Option Value → Bool
is_taken args last operands cell = equals_one args cell operands && not (is_below last cell)

-- how many operands are above a value
abbrev pub above_count : List Value → Option Value → List Operand → ℕ
above_count args last operands = length (filter (λ a. is_below last (operand_value args a)) operands)
