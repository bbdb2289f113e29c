-- The result rows of a statement.
use Rattle.std.specs.Prelude.{ℕ, ℤ, pos, ◌+ℤ◌, List, [], ◌∷◌, ◌++◌, map, length, slice_get, slice_index_or, Bool, false}
use Rattle.std.specs.Prelude.{if◌then◌else◌, Option, Some, None, unwrap_or}
use Rattle.std.specs.List.{filter}
use Rattle.std.specs.Option.{option_cmp}
use Rattle.std.specs.Ordering.{nat_cmp, int_cmp, is_lt, is_eq, ordering_then}
use Rattle.std.specs.Cmp.Lexicographic.{slice_cmp}
use Rattle.std.specs.declared.cmp.Ordering.{Ordering}
use Rattle.std.specs.declared.cmp.Ordering.TheVariants.{Less, Equal, Greater}
use Rattle.row_values.specs.Orders.{cell_order}
use Rattle.row_values.specs.Statements.{Statement}
use Rattle.row_values.specs.declared.values.Value.{Value}
use Rattle.row_values.specs.declared.values.Value.TheVariants.{Int, Text}
use Rattle.row_values.specs.declared.statement.ColRef.{ColRef}
use Rattle.row_values.specs.declared.statement.Item.{Item}
use Rattle.row_values.specs.declared.statement.Item.TheVariants.{Column, CountAll, Sum, Min, Max}
use Rattle.row_values.specs.declared.statement.OrderKey.{OrderKey}
use Rattle.statement_meaning.specs.Combinations.{row_at, kept_combinations}
use Rattle.row_values.specs.Sorting.{in_order, heads, least_of}

-- what a result row shows at an item: a value, or a whole number of any size
pub data Shown : Type 0 where
  Cell : (value : Value) → Shown
  Total : (number : ℤ) → Shown

-- the cell that a combination has in a column
abbrev pub cell_of : List (List (List Value)) → List ℕ → ColRef → Option Value
cell_of tables c at = slice_get (row_at tables at.place (slice_index_or c at.place 0)) at.column

-- how two combinations stand by a column, by a key, and by the first key that tells them apart
abbrev pub column_order : List (List (List Value)) → ColRef → List ℕ → List ℕ → Ordering
column_order tables at a b = cell_order (cell_of tables a at) (cell_of tables b at)

abbrev pub key_order : List (List (List Value)) → OrderKey → List ℕ → List ℕ → Ordering
key_order tables key a b = if key.descending then column_order tables key.at b a else column_order tables key.at a b

abbrev pub keys_order : List (List (List Value)) → List OrderKey → List ℕ → List ℕ → Ordering
keys_order tables [] a b = Equal
keys_order tables (key ∷ keys) a b = ordering_then (key_order tables key a b) (keys_order tables keys a b)

-- whether one combination comes before another by the keys, and by the row numbers alone
abbrev pub is_before : List (List (List Value)) → List OrderKey → List ℕ → List ℕ → Bool
is_before tables keys a b = is_lt (keys_order tables keys a b)

abbrev pub is_lower : List ℕ → List ℕ → Bool
is_lower a b = is_lt (slice_cmp nat_cmp a b)

-- the GROUP BY columns as keys, each ascending
abbrev pub group_keys : List ColRef → List OrderKey
group_keys groups = map (λ at. record { at = at; descending = false }) groups

-- whether two combinations have equal GROUP BY values
abbrev pub is_same_group : List (List (List Value)) → List ColRef → List ℕ → List ℕ → Bool
is_same_group tables groups a b = is_eq (keys_order tables (group_keys groups) a b)

-- the sum of whole numbers; a text counts for nothing
abbrev pub number_in : Option Value → ℤ
number_in None = pos 0
number_in (Some (Int number)) = number
number_in (Some (Text text)) = pos 0

abbrev pub sum_of : List (Option Value) → ℤ
sum_of [] = pos 0
sum_of (cell ∷ cells) = number_in cell +ℤ sum_of cells

-- a cell as a result; one that isn't there, of which no sound statement speaks, shows as the empty text
abbrev pub shown_cell : Option Value → Shown
shown_cell cell = Cell (unwrap_or cell (Text []))

-- an item over a combination and the members of its group
abbrev pub shown_item : List (List (List Value)) → List ℕ → List (List ℕ) → Item → Shown
shown_item tables c members (Column at) = shown_cell (cell_of tables c at)
shown_item tables c members CountAll = Total (pos (length members))
shown_item tables c members (Sum at) = Total (sum_of (map (λ m. cell_of tables m at) members))
shown_item tables c members (Min at) =
    shown_cell (least_of (λ a b. is_lt (cell_order a b)) (cell_of tables c at) (map (λ m. cell_of tables m at) members))
shown_item tables c members (Max at) =
    shown_cell (least_of (λ a b. is_lt (cell_order b a)) (cell_of tables c at) (map (λ m. cell_of tables m at) members))

abbrev pub shown_row : List (List (List Value)) → List Item → List (List ℕ) → List ℕ → List Shown
shown_row tables items members c = map (shown_item tables c members) items

-- one row per combination, ordered stably by the keys
abbrev pub plain_rows : List (List (List Value)) → List Item → List OrderKey → List (List ℕ) → List (List Shown)
plain_rows tables items order combos =
    map (λ c. shown_row tables items (c ∷ []) c) (in_order (is_before tables order) combos)

-- one row per distinct list of GROUP BY values, ordered by the keys and then by that list
abbrev pub group_rows : List (List (List Value)) → List Item → List ColRef → List OrderKey → List (List ℕ)
    → List (List Shown)
group_rows tables items groups order combos =
    map (λ c. shown_row tables items (filter (is_same_group tables groups c) combos) c)
    (in_order (is_before tables (order ++ group_keys groups)) (heads (is_same_group tables groups) combos))

abbrev pub rows_shown : List (List (List Value)) → List Item → List ColRef → List OrderKey → List (List ℕ)
    → List (List Shown)
rows_shown tables items [] order combos = plain_rows tables items order combos
rows_shown tables items (group ∷ groups) order combos = group_rows tables items (group ∷ groups) order combos

-- the result rows of any list of combinations, in whatever order they come
abbrev pub shape_of : Statement → List (List (List Value)) → List (List ℕ) → List (List Shown)
shape_of q tables combos = rows_shown tables q.items q.groups q.order (in_order is_lower combos)

-- the result rows of a statement with arguments over the tables of its places
abbrev pub meaning_of : Statement → List (List (List Value)) → List Value → List (List Shown)
meaning_of q tables args = shape_of q tables (kept_combinations q tables args)
