-- What a ready predicate asks of a row.
use Rattle.std.specs.Prelude.{ℕ, List, [], ◌∷◌, slice_get, slice_index_or, Bool, true, false, ◌&&◌, Option, Some}
use Rattle.std.specs.Prelude.{None}
use Rattle.std.specs.Option.{option_map_or}
use Rattle.row_values.specs.declared.values.Value.{Value}
use Rattle.row_values.specs.declared.values.Value.TheVariants.{Int, Text}
use Rattle.row_values.specs.declared.statement.Test.{Test}
use Rattle.row_values.specs.declared.statement.Test.TheVariants as test
use Rattle.csv_tables.specs.Tables.{TableValue}
use Rattle.statement_meaning.specs.Conditions.{meets, operand_value}
use Rattle.row_tests.specs.NumberTests.{number_holds}
use Rattle.row_tests.specs.declared.number_tests.NumberTest.{NumberTest}
use Rattle.row_tests.specs.declared.predicate_tests.Ready.{Ready}
use Rattle.row_tests.specs.declared.predicate_tests.Ready.TheVariants.{Numbers, Cells}

-- whether a value is there and is a whole number
abbrev pub is_number : Option Value → Bool
is_number None = false
is_number (Some (Int number)) = true
is_number (Some (Text text)) = false

-- whether a test is against whole numbers: each of its operands stands for one, and it is no IN, which is tested
-- operand by operand
abbrev pub has_numbers : List Value → Test → Bool
has_numbers args (test.Lt a) = is_number (operand_value args a)
has_numbers args (test.Le a) = is_number (operand_value args a)
has_numbers args (test.Gt a) = is_number (operand_value args a)
has_numbers args (test.Ge a) = is_number (operand_value args a)
has_numbers args (test.Eq a) = is_number (operand_value args a)
has_numbers args (test.Between a b) = is_number (operand_value args a) && is_number (operand_value args b)
has_numbers args (test.OneOf operands) = false

-- whether a cell is a whole number that meets it
abbrev pub is_number_in : NumberTest → Option Value → Bool
is_number_in test None = false
is_number_in test (Some (Int number)) = number_holds test number
is_number_in test (Some (Text text)) = false

-- whether a row, named by its number, meets a ready predicate of its table, and whether it meets all of them
abbrev pub ready_holds : List Value → TableValue → Ready → ℕ → Bool
ready_holds args table (Numbers numbers range) row =
    option_map_or (number_holds range.test) (slice_get numbers.now row) false
ready_holds args table (Cells column test) row =
    meets args test.now (slice_get (slice_index_or table.rows row []) column)

abbrev pub all_hold : List Value → TableValue → List Ready → ℕ → Bool
all_hold args table [] row = true
all_hold args table (ready ∷ more) row = ready_holds args table ready row && all_hold args table more row
