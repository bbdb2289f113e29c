-- How many operands an IN has.
use Rattle.std.specs.Prelude.{◌<◌, ◌≤◌, List, length}
use Rattle.row_values.specs.declared.operands.TheConstants.{OPERAND_LIMIT}
use Rattle.row_values.specs.declared.statement.Operand.{Operand}

-- one operand at least, and few enough
pub record AreOperands (operands : List Operand) : Type 0 where
  pub some : 0 < length operands
  pub few : length operands ≤ OPERAND_LIMIT
