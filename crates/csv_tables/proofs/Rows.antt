-- Rows that are cut out of one list of cells.
use Rattle.std.proofs.Common.{◌≡◌, ◌<◌, ◌≤◌, ℕ, zero, suc, ◌+◌, ◌*◌, List, [], ◌∷◌, drop, length, take, refl, ap, ◌∙◌}
use Rattle.std.proofs.Common.{arith, zero-add, zero-mul, suc-add, suc-mul, mul-le-mul_right}
use Rattle.std.specs.List.{slice_get}
use Rattle.row_values.specs.declared.values.Value.{Value}
use Rattle.csv_tables.specs.Tables.{rows_of, value_in}

pub length-rows_of : (count width : ℕ) (cells : List Value) → length (rows_of count width cells) ≡ count
unfolding rows_of
length-rows_of zero width cells = refl
length-rows_of (suc count) width cells = ap suc (length-rows_of count width (drop width cells))

-- a place in the front of a list
pub slice_get-take : (n i : ℕ) (xs : List Value) → i < n → slice_get (take n xs) i ≡ slice_get xs i
slice_get-take zero i xs h = absurd (omega arith)
slice_get-take (suc n) i [] h = refl
slice_get-take (suc n) zero (x ∷ xs) h = refl
slice_get-take (suc n) (suc i) (x ∷ xs) h = slice_get-take n i xs (omega arith)

-- a place behind the front of a list
pub slice_get-drop : (n i : ℕ) (xs : List Value) → slice_get (drop n xs) i ≡ slice_get xs (n + i)
slice_get-drop zero i xs = rw zero-add refl
slice_get-drop (suc n) i [] = refl
slice_get-drop (suc n) i (x ∷ xs) = rw suc-add (slice_get-drop n i xs)

-- a cell of a row stands in the list where its row's number and its column say
pub cell_in_rows : (count width : ℕ) (cells : List Value) (row column : ℕ) → row < count → column < width
    → value_in (slice_get (rows_of count width cells) row) column ≡ slice_get cells (row * width + column)
unfolding rows_of
cell_in_rows zero width cells row column h k = absurd (omega arith)
cell_in_rows (suc count) width cells zero column h k = rw (zero-mul, zero-add) (slice_get-take width column cells k)
cell_in_rows (suc count) width cells (suc row) column h k =
    let e : suc row * width + column ≡ width + (row * width + column) = rw suc-mul (omega arith) in
    rw e
    (cell_in_rows count width (drop width cells) row column (omega arith) k
    ∙ slice_get-drop width (row * width + column) cells)

-- and that place is in the list
pub cell_place : (count width row column : ℕ) → row < count → column < width → row * width + column < count * width
cell_place count width row column h k =
    let below : suc row * width ≤ count * width = mul-le-mul_right width h in
    let next : suc row * width ≡ row * width + width = suc-mul row width in
    omega arith
