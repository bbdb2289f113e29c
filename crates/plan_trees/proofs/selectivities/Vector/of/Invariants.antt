use Rattle.std.proofs.Common.{◌≡◌, ◌++◌, ◌-◌, take, replicate}
use Rattle.plan_trees.proofs.selectivities.Vector.of.Given as goal

-- the numbers so far, and zeros
abbrev pub invariant-loop-i : goal.invariant-loop-i
invariant-loop-i l = l.numbers ≡ take l.i l.s ++ replicate (8 - l.i) 0
