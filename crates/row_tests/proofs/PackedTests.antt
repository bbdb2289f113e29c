-- A test of a packed number is one of its cell.
use Rattle.std.proofs.Common.{ℕ, ℤ, ◌≡◌, ◌<◌, ◌≤◌, length, zero, suc, List, [], ◌∷◌, get_or, Option, None, Some, ap}
use Rattle.std.proofs.Common.{sym, ◌∙◌, refl}
use Rattle.std.specs.Prelude.{false, option_map, slice_get}
use Rattle.std.specs.Option.{option_map_or}
use Rattle.std.proofs.lemmas.Option.{slice_get-get_or, slice_get_past}
use Rattle.row_values.specs.declared.values.Value.{Value}
use Rattle.row_values.specs.declared.values.Value.TheVariants.{Int}
use Rattle.csv_tables.specs.Tables.{AreNumbers, TableValue, value_in}
use Rattle.row_tests.specs.declared.number_tests.NumberTest.{NumberTest}
use Rattle.row_tests.specs.NumberTests.{number_holds}
use Rattle.row_tests.specs.Ready.{is_number_in}

-- the value of a row that may not be there
pub cell_of_row : (rows : List (List Value)) (row column : ℕ)
    → value_in (slice_get rows row) column ≡ slice_get (get_or rows row []) column
cell_of_row [] row column = refl
cell_of_row (cells ∷ rows) zero column = refl
cell_of_row (cells ∷ rows) (suc row) column = cell_of_row rows row column

number_or_none : (test : NumberTest) (number : Option ℤ)
    → option_map_or (number_holds test) number false ≡ is_number_in test (option_map Int number)
number_or_none test None = refl
number_or_none test (Some number) = refl

pub packed_meets : (test : NumberTest) (table : TableValue) (column : ℕ) (numbers : List ℤ)
    → AreNumbers table column numbers → (row : ℕ)
    → option_map_or (number_holds test) (slice_get numbers row) false
    ≡ is_number_in test (slice_get (get_or table.rows row []) column)
packed_meets test table column numbers packed row =
    number_or_none test (slice_get numbers row)
    ∙ ap (is_number_in test) (sym (packed.cells row) ∙ cell_of_row table.rows row column)

pub number_found : (test : NumberTest) (numbers : List ℤ) (row : ℕ) (number d : ℤ) → row < length numbers
    → number ≡ get_or numbers row d
    → number_holds test number ≡ option_map_or (number_holds test) (slice_get numbers row) false
number_found test numbers row number d h e = rw (slice_get-get_or numbers row d h, e) refl

pub number_missing : (test : NumberTest) (numbers : List ℤ) (row : ℕ) → length numbers ≤ row
    → false ≡ option_map_or (number_holds test) (slice_get numbers row) false
number_missing test numbers row h = rw (slice_get_past numbers row h) refl
