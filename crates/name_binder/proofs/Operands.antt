-- Binding a test binds its operands in text order; how many of them are parameters.
use Rattle.std.proofs.Common.{ℕ, ◌≡◌, ◌≤◌, ◌+◌, ◌*◌, List, [], ◌∷◌, ◌++◌, length, nat_lt, Bool, true, false}
use Rattle.std.proofs.Common.{if◌then◌else◌, refl, arith}
use Rattle.std.specs.List.{list_any}
use Rattle.std.proofs.lemmas.Bool.{ltb-false}
use Rattle.row_values.specs.declared.operands.TheConstants.{OPERAND_LIMIT}
use Rattle.sql_parser.specs.declared.statement.RawOperand.{RawOperand}
use Rattle.sql_parser.specs.declared.statement.RawOperand.TheVariants.{Literal, Param}
use Rattle.row_values.specs.Statements as bound
use Rattle.sql_parser.specs.declared.statement.RawTest.{RawTest}
use Rattle.sql_parser.specs.declared.statement.RawTest.TheVariants.{Lt, Le, Gt, Ge, Eq, Between, OneOf}
use Rattle.name_binder.specs.Parameters as raw
use Rattle.name_binder.specs.Parameters.{is_parameter, parameter_count, test_count}
use Rattle.name_binder.specs.Refusals.{is_long}
use Rattle.name_binder.specs.Binding.{operands_from, test_from}

pub from_operands : (n : ℕ) (t : RawTest) → bound.operands_of (test_from n t) ≡ operands_from n (raw.operands_of t)
from_operands n (Lt a) = refl
from_operands n (Le a) = refl
from_operands n (Gt a) = refl
from_operands n (Ge a) = refl
from_operands n (Eq a) = refl
from_operands n (Between a b) = refl
from_operands n (OneOf operands) = refl

pub count_append : (front back : List RawOperand) → parameter_count (front ++ back)
    ≡ parameter_count front + parameter_count back
count_append [] back = omega arith
count_append (Literal value ∷ front) back = omega (arith, count_append front back)
count_append (Param ∷ front) back = omega (arith, count_append front back)

at_most_all : (operands : List RawOperand) → parameter_count operands ≤ length operands
at_most_all [] = omega arith
at_most_all (Literal value ∷ operands) = omega (arith, at_most_all operands)
at_most_all (Param ∷ operands) = omega (arith, at_most_all operands)

none_counted : (operands : List RawOperand) → list_any is_parameter operands ≡ false → parameter_count operands ≡ 0
none_counted [] none = refl
none_counted (Literal value ∷ operands) none = omega (arith, none_counted operands none)
none_counted (Param ∷ operands) none = cc

few_by : (some : Bool) (count : ℕ) → (some ≡ false → count ≡ 0) → count ≤ 16 → count ≤ 16 * (if some then 1 else 0)
few_by true count none few = few
few_by false count none few = omega (arith, none refl)

-- a test has sixteen parameters at most, and none where it isn't parameterised
pub few_counted : (t : RawTest) → is_long t ≡ false
    → test_count t ≤ 16 * (if list_any is_parameter (raw.operands_of t) then 1 else 0)
few_counted t short =
    let operands = raw.operands_of t in
    few_by (list_any is_parameter operands) (parameter_count operands) (none_counted operands)
    (omega (arith, at_most_all operands, ltb-false OPERAND_LIMIT (length operands) short))
