-- A test that fits a column is of a column that is there.
use Rattle.std.proofs.Common.{◌≡◌, ◌<◌, List, [], ◌∷◌, ◌++◌, length, All, IsSome, Option, arith, refl, sym, subst}
use Rattle.std.proofs.lemmas.List.Elements.{All-head, All-tail, All-nil, All-cons, All-append}
use Rattle.row_values.specs.declared.values.Kind.{Kind}
use Rattle.row_values.specs.declared.statement.Operand.{Operand}
use Rattle.row_values.specs.declared.statement.Operand.TheVariants.{Literal, Param}
use Rattle.row_values.specs.declared.statement.Test.{Test}
use Rattle.row_values.specs.Operands.{AreOperands}
use Rattle.row_values.specs.Statements.{IsOperand, IsTest, operands_of}

operand_there : (left : Option Kind) (operand : Operand) → IsOperand left operand → IsSome left
operand_there left (Literal value) is = rw is refl
operand_there left (Param number) is = is

first_there : (left : Option Kind) (operands : List Operand) → 0 < length operands → All (IsOperand left) operands
    → IsSome left
first_there left [] some are = absurd (omega (arith, some))
first_there left (operand ∷ operands) some are =
    operand_there left operand (All-head (IsOperand left) operand operands are)

pub test_there : (left : Option Kind) (test : Test) → IsTest left test → IsSome left
test_there left test is = first_there left (operands_of test) is.0.some is.1

all_front : (P : Operand → Type 0) (front back : List Operand) → All P (front ++ back) → All P front
all_front P [] back are = All-nil P
all_front P (a ∷ front) back are =
    All-cons P a front (All-head P a (front ++ back) are) (all_front P front back (All-tail P a (front ++ back) are))

all_back : (P : Operand → Type 0) (front back : List Operand) → All P (front ++ back) → All P back
all_back P [] back are = are
all_back P (a ∷ front) back are = all_back P front back (All-tail P a (front ++ back) are)

-- a test fits where both parts of its operands do
pub test_fits : (left : Option Kind) (test : Test) (front back : List Operand) → front ++ back ≡ operands_of test
    → AreOperands (operands_of test) → All (IsOperand left) front → All (IsOperand left) back → IsTest left test
test_fits left test front back same count fits_front fits_back =
    (count, subst (All (IsOperand left)) same (All-append (IsOperand left) front back fits_front fits_back))

pub front_fits : (left : Option Kind) (test : Test) (front back : List Operand) → front ++ back ≡ operands_of test
    → IsTest left test → All (IsOperand left) front
front_fits left test front back same is =
    all_front (IsOperand left) front back (subst (All (IsOperand left)) (sym same) is.1)

pub back_fits : (left : Option Kind) (test : Test) (front back : List Operand) → front ++ back ≡ operands_of test
    → IsTest left test → All (IsOperand left) back
back_fits left test front back same is =
    all_back (IsOperand left) front back (subst (All (IsOperand left)) (sym same) is.1)
