-- How two values stand, and two cells that may not be there.
use Rattle.std.specs.Prelude.{Bool, false, Option, Some, None}
use Rattle.std.specs.Option.{option_cmp, option_map_or}
use Rattle.std.specs.Ordering.{nat_cmp, int_cmp}
use Rattle.std.specs.Cmp.Lexicographic.{slice_cmp}
use Rattle.std.specs.declared.cmp.Ordering.{Ordering}
use Rattle.std.specs.declared.cmp.Ordering.TheVariants.{Less, Greater}
use Rattle.row_values.specs.Values.{value_cmp}
use Rattle.row_values.specs.declared.values.Value.{Value}
use Rattle.row_values.specs.declared.values.Value.TheVariants.{Int, Text}

-- The value order; where the kinds differ, which they don't in one column, numbers come first.
abbrev pub value_order : Value → Value → Ordering
value_order (Int a) (Int b) = int_cmp a b
value_order (Text a) (Text b) = slice_cmp nat_cmp a b
value_order (Int a) (Text b) = Less
value_order (Text a) (Int b) = Greater

-- the same of cells; one that isn't there comes first
abbrev pub cell_order : Option Value → Option Value → Ordering
cell_order = option_cmp value_order

-- how two values stand, where both are there and of one kind
abbrev pub order_between : Option Value → Option Value → Option Ordering
order_between None right = None
order_between (Some left) None = None
order_between (Some left) (Some right) = value_cmp left right

-- whether they stand so
abbrev pub compares : (Ordering → Bool) → Option Value → Option Value → Bool
compares passes left right = option_map_or passes (order_between left right) false
