use Rattle.std.proofs.Common.{length}
use Rattle.cost_polynomials.proofs.distances.+grown.Given as goal

-- the numbers that are left
abbrev pub decreases-grown : goal.decreases-grown
decreases-grown l = length l.to.now
