use Rattle.std.proofs.Common.{◌≡◌, map, take}
use Rattle.result_shape.proofs.heads.combos_of.Given as goal

-- the combinations so far
abbrev pub invariant-loop-one : goal.invariant-loop-one
invariant-loop-one l = l.combos.items ≡ map (λ one. one.combo) (take l.one-index l.headed)
