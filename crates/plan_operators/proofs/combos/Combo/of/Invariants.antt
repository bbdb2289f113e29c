use Rattle.std.proofs.Common.{◌≡◌, ◌++◌, ◌-◌, take, replicate}
use Rattle.plan_operators.proofs.combos.Combo.of.Given as goal

-- the row numbers so far, and zeros
abbrev pub invariant-loop-place : goal.invariant-loop-place
invariant-loop-place l = l.kept ≡ take l.place l.rows ++ replicate (5 - l.place) 0
