use Rattle.std.proofs.Common.{◌≡◌, ◌++◌, ◌-◌, take, replicate}
use Rattle.plan_trees.proofs.statistics.Indexed.of.Given as goal

-- the masks so far, and zeros
abbrev pub invariant-loop-i : goal.invariant-loop-i
invariant-loop-i l = l.kept ≡ take l.i l.masks ++ replicate (5 - l.i) 0
