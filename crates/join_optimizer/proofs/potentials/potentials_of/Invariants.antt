use Rattle.std.proofs.Common.{◌≡◌, map, take}
use Rattle.join_optimizer.specs.Potentials.{numbers}
use Rattle.join_optimizer.proofs.potentials.potentials_of.Given as goal

-- the sets so far
abbrev pub invariant-loop-cell : goal.invariant-loop-cell
invariant-loop-cell l = l.list.items ≡ map numbers (take l.cell-index l.cells)
