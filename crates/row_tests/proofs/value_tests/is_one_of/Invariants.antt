use Rattle.std.proofs.Common.{◌≡◌, Some, drop}
use Rattle.statement_meaning.specs.Conditions.{equals_one}
use Rattle.row_tests.proofs.value_tests.is_one_of.Given as goal

-- the operands that are left decide
abbrev pub invariant-loop-operand : goal.invariant-loop-operand
invariant-loop-operand l =
    equals_one l.args (Some l.cell) (drop l.operand-index l.operands) ≡ equals_one l.args (Some l.cell) l.operands
