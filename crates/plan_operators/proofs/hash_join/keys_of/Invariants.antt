use Rattle.std.proofs.Common.{◌≡◌, map, take}
use Rattle.std.specs.Option.{option_map}
use Rattle.plan_operators.specs.Columns.{cell_seen, value_read}
use Rattle.plan_operators.proofs.hash_join.keys_of.Given as goal

abbrev pub invariant-loop-combo : goal.invariant-loop-combo
invariant-loop-combo l =
    map (option_map value_read) l.keys.items ≡ map (cell_seen l.column) (take l.combo-index l.combos)
