use Rattle.std.proofs.Common.{length}
use Rattle.cost_check.proofs.nearest.+how_near.Given as goal

-- the numbers that are left
abbrev pub decreases-how_near : goal.decreases-how_near
decreases-how_near l = length l.q.now
