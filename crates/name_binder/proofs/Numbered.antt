-- The parameters of bound predicates rise from 0, and the limits on conditions carry over.
use Rattle.std.proofs.Common.{ℕ, ◌≡◌, ◌+◌, List, [], ◌∷◌, ◌++◌, Bool, length, true, if◌then◌else◌, refl, ap, sym, ◌∙◌}
use Rattle.std.proofs.Common.{arith, append_assoc, add-zero, zero-add}
use Rattle.std.specs.List.{flat_map, list_any}
use Rattle.std.proofs.lemmas.Grind.{common_steps}
use Rattle.row_values.specs.Statements as bound
use Rattle.row_values.specs.Statements.{operand_parameters, test_parameters, parameters_of, are_numbered}
use Rattle.row_values.specs.Statements.{selectivity_count}
use Rattle.row_values.specs.declared.statement.Operand.{Operand}
use Rattle.row_values.specs.declared.statement.Place.{Place}
use Rattle.sql_parser.specs.declared.statement.RawOperand.{RawOperand}
use Rattle.sql_parser.specs.declared.statement.RawOperand.TheVariants.{Literal, Param}
use Rattle.sql_parser.specs.declared.statement.RawTest.{RawTest}
use Rattle.sql_parser.specs.declared.statement.RawCond.{RawCond}
use Rattle.sql_parser.specs.declared.statement.RawCond.TheVariants.{Test, Same}
use Rattle.name_binder.specs.Parameters as raw
use Rattle.name_binder.specs.Parameters.{is_parameter, parameter_count, test_count, parameterised_count}
use Rattle.name_binder.specs.Binding.{operand_from, next_number, operands_from, test_from, preds_from, edges_of}
use Rattle.name_binder.proofs.Operands.{from_operands}

operand_numbered : (n : ℕ) (a : RawOperand) (rest : List ℕ)
    → are_numbered n (operand_parameters (operand_from n a) ++ rest) ≡ are_numbered (next_number n a) rest
operand_numbered n (Literal value) rest = refl
operand_numbered n Param rest = grind (arith, common_steps)

-- the number behind an operand, and behind several
next_count : (n k : ℕ) (a : RawOperand) → next_number n a + k ≡ n + ((if is_parameter a then 1 else 0) + k)
next_count n k (Literal value) = omega arith
next_count n k Param = omega arith

operands_numbered : (n : ℕ) (operands : List RawOperand) (rest : List ℕ)
    → are_numbered n (flat_map operand_parameters (operands_from n operands) ++ rest)
    ≡ are_numbered (n + parameter_count operands) rest
operands_numbered n [] rest = rw add-zero refl
operands_numbered n (a ∷ operands) rest =
    let m : ℕ = next_number n a in
    ap (are_numbered n) (append_assoc (operand_parameters (operand_from n a))
    (flat_map operand_parameters (operands_from m operands)) rest)
    ∙ operand_numbered n a (flat_map operand_parameters (operands_from m operands) ++ rest)
    ∙ operands_numbered m operands rest
    ∙ ap (λ (k : ℕ). are_numbered k rest) (next_count n (parameter_count operands) a)

test_numbered : (n : ℕ) (t : RawTest) (rest : List ℕ)
    → are_numbered n (test_parameters (test_from n t) ++ rest) ≡ are_numbered (n + test_count t) rest
test_numbered n t rest =
    ap (λ (operands : List Operand). are_numbered n (flat_map operand_parameters operands ++ rest)) (from_operands n t)
    ∙ operands_numbered n (raw.operands_of t) rest

pub numbered : (places : List Place) (n : ℕ) (conds : List RawCond)
    → are_numbered n (parameters_of (preds_from places n conds)) ≡ true
numbered places n [] = refl
numbered places n (Test r t ∷ conds) = test_numbered n t (parameters_of (preds_from places (n + test_count t) conds))
    ∙ numbered places (n + test_count t) conds
numbered places n (Same a b ∷ conds) = numbered places n conds

-- binding keeps which operands are parameters
some_parameter : (n : ℕ) (operands : List RawOperand)
    → list_any bound.is_parameter (operands_from n operands) ≡ list_any is_parameter operands
some_parameter n [] = refl
some_parameter n (Literal value ∷ operands) = some_parameter n operands
some_parameter n (Param ∷ operands) = refl

some_in_test : (n : ℕ) (t : RawTest)
    → list_any bound.is_parameter (bound.operands_of (test_from n t)) ≡ list_any is_parameter (raw.operands_of t)
some_in_test n t = ap (list_any bound.is_parameter) (from_operands n t) ∙ some_parameter n (raw.operands_of t)

pub selectivities : (places : List Place) (n : ℕ) (conds : List RawCond)
    → selectivity_count (preds_from places n conds) ≡ parameterised_count conds
selectivities places n [] = refl
selectivities places n (Test r t ∷ conds) =
    ap (λ (some : Bool). (if some then 1 else 0) + selectivity_count (preds_from places (n + test_count t) conds))
    (some_in_test n t)
    ∙ ap (λ (k : ℕ). (if list_any is_parameter (raw.operands_of t) then 1 else 0) + k)
    (selectivities places (n + test_count t) conds)
selectivities places n (Same a b ∷ conds) = selectivities places n conds ∙ sym (zero-add (parameterised_count conds))

pub conditions : (places : List Place) (n : ℕ) (conds : List RawCond)
    → length (preds_from places n conds) + length (edges_of places conds) ≡ length conds
conditions places n [] = refl
conditions places n (Test r t ∷ conds) = grind (arith, common_steps, conditions places (n + test_count t) conds)
conditions places n (Same a b ∷ conds) = grind (arith, common_steps, conditions places n conds)
