use Rattle.std.proofs.Common.{◌≡◌, ◌++◌, ◌+◌, ◌≤◌, drop}
use Rattle.name_binder.specs.Binding.{operands_from}
use Rattle.name_binder.proofs.parts.operands_from.Given as goal

-- the operands that are left add the rest
abbrev pub invariant-loop-operand : goal.invariant-loop-operand
invariant-loop-operand l =
    (l.next ≤ l.first + l.operand-index)
    × (l.bound.items ++ operands_from l.next (drop l.operand-index l.operands) ≡ operands_from l.first l.operands)
