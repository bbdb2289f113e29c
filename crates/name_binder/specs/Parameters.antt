-- Which conditions are parameterised, and how many parameters they have.
use Rattle.std.specs.Prelude.{ℕ, ◌+◌, List, [], ◌∷◌, Bool, true, false, if◌then◌else◌}
use Rattle.std.specs.List.{list_any}
use Rattle.sql_parser.specs.declared.statement.RawOperand.{RawOperand}
use Rattle.sql_parser.specs.declared.statement.RawOperand.TheVariants.{Literal, Param}
use Rattle.sql_parser.specs.declared.statement.RawTest.{RawTest}
use Rattle.sql_parser.specs.declared.statement.RawTest.TheVariants.{Lt, Le, Gt, Ge, Eq, Between, OneOf}
use Rattle.sql_parser.specs.declared.statement.RawCond.{RawCond}
use Rattle.sql_parser.specs.declared.statement.RawCond.TheVariants as cond

-- what a test compares its column with, in text order
abbrev pub operands_of : RawTest → List RawOperand
operands_of (Lt a) = a ∷ []
operands_of (Le a) = a ∷ []
operands_of (Gt a) = a ∷ []
operands_of (Ge a) = a ∷ []
operands_of (Eq a) = a ∷ []
operands_of (Between a b) = a ∷ b ∷ []
operands_of (OneOf operands) = operands

abbrev pub is_parameter : RawOperand → Bool
is_parameter (Literal value) = false
is_parameter Param = true

-- how many parameters these operands are
abbrev pub parameter_count : List RawOperand → ℕ
parameter_count [] = 0
parameter_count (a ∷ operands) = (if is_parameter a then 1 else 0) + parameter_count operands

abbrev pub test_count : RawTest → ℕ
test_count test = parameter_count (operands_of test)

abbrev pub is_parameterised : RawCond → Bool
is_parameterised (cond.Test r test) = list_any is_parameter (operands_of test)
is_parameterised (cond.Same a b) = false

-- how many conditions have a parameter
abbrev pub parameterised_count : List RawCond → ℕ
parameterised_count [] = 0
parameterised_count (condition ∷ conditions) =
    (if is_parameterised condition then 1 else 0) + parameterised_count conditions
