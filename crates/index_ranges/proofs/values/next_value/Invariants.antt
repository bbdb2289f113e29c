use Rattle.std.proofs.Common.{◌≡◌, drop}
use Rattle.std.specs.Option.{option_map}
use Rattle.index_ranges.specs.Values.{next_above, next_from}
use Rattle.index_ranges.proofs.values.next_value.Given as goal

-- the operands that are left go on from the value found so far
abbrev pub invariant-loop-operand : goal.invariant-loop-operand
invariant-loop-operand l =
    next_from l.args (option_map (λ value. value.now) l.last) (option_map (λ value. value.now) l.next)
    (drop l.operand-index l.operands)
    ≡ next_above l.args (option_map (λ value. value.now) l.last) l.operands
