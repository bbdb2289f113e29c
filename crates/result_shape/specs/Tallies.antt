-- What a tally keeps of the members of a group: a whole number, or the row of a cell.
use Rattle.std.specs.Prelude.{ℕ, ℤ, pos, ◌≡◌, ◌<◌, ◌*◌, ◌^◌, ◌+ℤ◌, ◌≤ℤ◌, List, Option, length, map, slice_get, slice_index_or}
use Rattle.std.specs.Ordering.{is_lt}
use Rattle.row_values.specs.Orders.{cell_order}
use Rattle.row_values.specs.Sorting.{least_of}
use Rattle.row_values.specs.declared.values.Value.{Value}
use Rattle.row_values.specs.declared.statement.ColRef.{ColRef}
use Rattle.row_values.specs.declared.statement.Item.{Item}
use Rattle.row_values.specs.declared.statement.Item.TheVariants.{Column, CountAll, Sum, Min, Max}
use Rattle.plan_operators.specs.Columns.{cell_read}
use Rattle.statement_meaning.specs.Combinations.{row_at}
use Rattle.statement_meaning.specs.Meaning.{Shown, Total, cell_of, shown_cell, sum_of}
use Rattle.result_shape.specs.declared.tallies.ReadyItem.{ReadyItem}
use Rattle.result_shape.specs.declared.tallies.Tally.{Tally}
use Rattle.result_shape.specs.declared.tallies.Tally.TheVariants.{Number, Cell}

-- the cell of a row in a column of a place
abbrev pub cell_at : List (List (List Value)) → ColRef → ℕ → Option Value
cell_at tables at row = slice_get (row_at tables at.place row) at.column

-- what a tally shows, and the tallies of a row
abbrev pub tally_shown : List (List (List Value)) → Tally → Shown
tally_shown tables (Number number) = Total number
tally_shown tables (Cell at row) = shown_cell (cell_at tables at row)

abbrev pub tallies_shown : List (List (List Value)) → List Tally → List Shown
tallies_shown tables tallies = map (tally_shown tables) tallies

-- the column that an item reads; COUNT(*) reads none, and any will do
abbrev pub column_in : Item → ColRef
column_in (Column at) = at
column_in CountAll = record { place = 0; column = 0 }
column_in (Sum at) = at
column_in (Min at) = at
column_in (Max at) = at

-- an item that is ready has the column that it reads over these tables
pub record IsReadyItem (tables : List (List (List Value))) (ready : ReadyItem) : Type 0 where
  pub place : ready.column.place ≡ (column_in ready.item).place
  pub cells : (row : ℕ) → cell_read ready.column.cells row ≡ cell_at tables (column_in ready.item) row

-- the sum of some cells, each of which adds or takes at most 2 ^ 63
pub record IsSumOf (number : ℤ) (cells : List (Option Value)) : Type 0 where
  pub sum : number ≡ sum_of cells
  pub low : pos 0 ≤ℤ (number +ℤ pos (length cells * 2 ^ 63))
  pub high : number ≤ℤ pos (length cells * 2 ^ 63)

-- the number of a tally, and the cell that it keeps
abbrev pub IsNumber : (ℤ → Type 0) → Tally → Type 0
IsNumber P (Number number) = P number
IsNumber P (Cell at row) = ⊥

pub record IsRowOf (tables : List (List (List Value))) (at of : ColRef) (row : ℕ) (cell : Option Value) : Type 0 where
  pub column : of ≡ at
  pub value : cell_at tables at row ≡ cell

abbrev pub IsCell : List (List (List Value)) → ColRef → Option Value → Tally → Type 0
IsCell tables at cell (Number number) = ⊥
IsCell tables at cell (Cell of row) = IsRowOf tables at of row cell

-- the tally of an item over a group, of which the first member is given too
abbrev pub IsTallyOf : List (List (List Value)) → List ℕ → List (List ℕ) → Item → Tally → Type 0
IsTallyOf tables first members (Column at) tally = IsCell tables at (cell_of tables first at) tally
IsTallyOf tables first members CountAll tally = IsNumber (λ number. number ≡ pos (length members)) tally
IsTallyOf tables first members (Sum at) tally =
    IsNumber (λ number. IsSumOf number (map (λ m. cell_of tables m at) members)) tally
IsTallyOf tables first members (Min at) tally =
    IsCell tables at
    (least_of (λ a b. is_lt (cell_order a b)) (cell_of tables first at) (map (λ m. cell_of tables m at) members)) tally
IsTallyOf tables first members (Max at) tally =
    IsCell tables at
    (least_of (λ a b. is_lt (cell_order b a)) (cell_of tables first at) (map (λ m. cell_of tables m at) members)) tally

-- each item's tally over a group
pub record AreTalliesOf (tables : List (List (List Value))) (first : List ℕ) (members : List (List ℕ))
    (items : List Item) (tallies : List Tally) : Type 0 where
  pub count : length tallies ≡ length items
  pub each : (k : ℕ) (d : Item) (e : Tally) → k < length items
      → IsTallyOf tables first members (slice_index_or items k d) (slice_index_or tallies k e)

-- whether a number may still grow by a whole number of 64 bits
abbrev pub HasRoom : Tally → Type 0
HasRoom (Number number) = (pos 0 ≤ℤ (number +ℤ pos (2 ^ 126))) × (number ≤ℤ pos (2 ^ 126))
HasRoom (Cell at row) = Unit {0}
