use Rattle.std.proofs.Common.{◌≡◌, map, take}
use Rattle.result_shape.proofs.heads.headed_of.Given as goal

-- the combinations so far
abbrev pub invariant-loop-combo : goal.invariant-loop-combo
invariant-loop-combo l = map (λ one. one.combo) l.headed.items ≡ take l.combo-index l.combos
