use Rattle.std.proofs.Common.{◌≡◌, ◌≤◌, ◌+◌, ◌++◌, drop, length, map}
use Rattle.std.specs.List.{flat_map}
use Rattle.row_values.specs.Statements.{operand_parameters}
use Rattle.row_values.proofs.statement.push_operands.Given as goal

-- there is room for the operands that are left, and they add the rest
abbrev pub invariant-loop-operand : goal.invariant-loop-operand
invariant-loop-operand l =
    (length l.kinds + length (flat_map operand_parameters (drop l.operand-index l.operands)) ≤ 128)
    × (l.kinds ++ map (λ _. l.kind) (flat_map operand_parameters (drop l.operand-index l.operands))
    ≡ l.initial.kinds ++ map (λ _. l.kind) (flat_map operand_parameters l.operands))
