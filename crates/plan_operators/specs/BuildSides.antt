-- The build side of a hash join.
use Rattle.std.specs.Prelude.{ℕ, ◌≡◌, List, Bool, Option, true, false, map, not, IsSortedBy}
use Rattle.std.specs.List.Sorted.{IsPartitionPoint}
use Rattle.std.specs.Option.{option_map}
use Rattle.std.specs.Ordering.{is_ge, is_le, is_lt}
use Rattle.row_values.specs.Orders.{cell_order}
use Rattle.plan_operators.specs.Columns.{cell_seen, value_read}
use Rattle.plan_operators.specs.declared.columns.Cell.{Cell}
use Rattle.plan_operators.specs.declared.columns.PlaceColumn.{PlaceColumn}
use Rattle.plan_operators.specs.declared.hash_join.BuildSide.{BuildSide}

-- whether one combination comes before another by its cell in this column
abbrev pub has_lower_key : PlaceColumn → List ℕ → List ℕ → Bool
has_lower_key column a b = is_lt (cell_order (cell_seen column a) (cell_seen column b))

-- the combinations stand in the order of their keys, and the keys beside them
pub record IsBuildSide (side : BuildSide) : Type 0 where
  pub in_order : IsSortedBy (has_lower_key side.column) side.combos.items
  pub keys : map (option_map value_read) side.keys.items ≡ map (cell_seen side.column) side.combos.items

-- what holds of each element before a position and of none from there on
abbrev pub IsPointOf : {X : Type 0} → (X → Bool) → List X → ℕ → Type 0
IsPointOf p xs k = IsPartitionPoint (λ x. p x ≡ true) (λ x. p x ≡ false) xs k

-- whether a key lies below another, and whether it doesn't lie above it
abbrev pub is_below : Option Cell → Option Cell → Bool
is_below key one = not (is_ge (cell_order (option_map value_read one) (option_map value_read key)))

abbrev pub is_up_to : Option Cell → Option Cell → Bool
is_up_to key one = is_le (cell_order (option_map value_read one) (option_map value_read key))
