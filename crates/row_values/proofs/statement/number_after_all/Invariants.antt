use Rattle.std.proofs.Common.{ℕ, ◌≡◌, ◌+◌, ◌≤◌, List, ◌++◌, drop}
use Rattle.std.specs.List.{flat_map}
use Rattle.row_values.specs.Statements.{are_numbered, operand_parameters}
use Rattle.row_values.proofs.statement.number_after_all.Given as goal

-- the operands that are left decide
abbrev pub invariant-loop-operand : goal.invariant-loop-operand
invariant-loop-operand l =
    (l.after ≤ l.next + l.operand-index)
    × ((rest : List ℕ) → are_numbered l.next (flat_map operand_parameters l.operands ++ rest)
    ≡ are_numbered l.after (flat_map operand_parameters (drop l.operand-index l.operands) ++ rest))
