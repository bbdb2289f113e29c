use Rattle.std.proofs.Common.{◌≡◌, ◌+◌, ◌≤◌, drop}
use Rattle.name_binder.specs.Parameters.{parameter_count}
use Rattle.name_binder.proofs.raw_operands.parameter_count.Given as goal

-- the operands that are left add the rest
abbrev pub invariant-loop-operand : goal.invariant-loop-operand
invariant-loop-operand l =
    (l.count ≤ l.operand-index) × (l.count + parameter_count (drop l.operand-index l.operands)
    ≡ parameter_count l.operands)
